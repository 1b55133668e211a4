-- The answer of a modes call and the list that it leaves, served and turned down: one law for a line and for a ring. Assumes nothing.
use Prim.Native.Nat.{ℕ, ◌≤◌}
use mathlib.Core.Path.{◌≡◌, refl, sym, ap, ◌∙◌}
use mathlib.Core.List.{List}
use native.Mathlib.Omega.{arith}
use borrow.Author.Tests.{eq-eqb, ne_eqb}
use lib.ListN.{length}
use Rattle.lists.specs.Lists.{over}
use Rattle.verdict.specs.Test.{Closeness}
use Rattle.verdict.specs.Settings.{Offered}
use Rattle.pooling.specs.Limits.{Small}
use Rattle.segmentation.specs.Finished.{LineFinished, RingFinished}
use Rattle.segmentation.proofs.Always.{always-finished, ring-always-finished}
use Rattle.listing.specs.Listing.{RingOrdered}
use Rattle.listing.proofs.Always.{ring-always-ordered}
use Rattle.std.specs.Prelude.{Result, Ok, Err, OnOk}
use Rattle.grounds.specs.declared.Ground.{Ground}
use Rattle.grounds.specs.Checks.{ground_number, number_of}
use Rattle.grounds.proofs.Checks.{ground-some}
use Rattle.kistrovu.specs.Calls.{modes_given}
use Rattle.kistrovu.specs.declared.ModesAnswer.{ModesAnswer}
use Rattle.grounds.specs.Grounds.{modes_number}
use Rattle.kistrovu.specs.Answers.{served, modes_answer, modes_list}
use Rattle.grounds.proofs.Served.{Accepted, fit-served, verdict-served, modes-served}

-- ---- what a served call knows of its histogram and its list
pub record ModesAccepted (e : Closeness) (h : List ℕ) (places : ℕ) : Type 0 where
  pub histogram : Accepted h
  pub close : Offered e
  pub room : length h ≤ places

pub accepted : (e : Closeness) (h : List ℕ) (places : ℕ) → modes_number e h places ≡ 0 → ModesAccepted e h places
accepted e h places z =
    let m = modes-served e h places z in
    let v = verdict-served e h m.0 in
    record { histogram = fit-served h v.0; close = v.1; room = m.1 }

pub accepted-small : {e : Closeness} {h : List ℕ} {places : ℕ} → ModesAccepted e h places → Small h
accepted-small m = let a = m.histogram in record { bins = omega (arith, a.bins); counts = omega (arith, a.counts) }

module _ (e : Closeness) (h list : List ℕ) (n : ℕ) (number : n ≡ modes_number e h (length list)) where
  module _ (z : n ≡ 0) where
    pub modes-accepted : ModesAccepted e h (length list)
    modes-accepted = accepted e h (length list) (sym number ∙ z)

    pub modes-small : Small h
    modes-small = accepted-small modes-accepted

    pub line-finished : LineFinished e h
    line-finished = let a = modes-accepted.histogram in always-finished e h a.some (omega (arith, a.bins)) (omega (arith, a.counts))

    pub ring-finished : RingFinished e h × RingOrdered e h
    ring-finished = let a = modes-accepted.histogram in (ring-always-finished e h a.some a.bins a.counts, ring-always-ordered e h a.some)

-- ---- what a call hands back and leaves, by its number
pub is-served : {A : Type 0} {n : ℕ} (a b : A) → n ≡ 0 → served n a b ≡ a
is-served a b z = rw (eq-eqb _ _ z) refl

pub is-turned-down : {A : Type 0} {n : ℕ} (a b : A) → ¬ (n ≡ 0) → served n a b ≡ b
is-turned-down a b d = rw (ne_eqb _ _ d) refl

-- separators_of gives the list of a line, or that of a ring
pub record Listed (separators_of : Closeness → List ℕ → List ℕ) (e : Closeness) (h list : List ℕ) (number : ℕ) (r : ModesAnswer) (after : List ℕ) : Type 0 where
  pub answer : r ≡ modes_answer (separators_of e h) number
  pub left : after ≡ modes_list (separators_of e h) number list

module _ (separators_of : Closeness → List ℕ → List ℕ) (e : Closeness) (h list : List ℕ) (number : ℕ) where
  -- the code lists them at the closeness of a setting, which is the same
  pub list-served : number ≡ 0 → (at : Closeness) → at ≡ e → (k : ℕ) (after : List ℕ) → k ≡ length (separators_of at h) → after ≡ over (separators_of at h) list
      → Listed separators_of e h list number (record { number = 0; separators = k }) after
  unfolding modes_answer modes_list
  list-served z at same k after count is =
      let counted = count ∙ ap (λ (x : Closeness). length (separators_of x h)) same ∙ sym (is-served _ 0 z) in
      record {
        answer = λ i. record { number = sym z i; separators = counted i };
        left = is ∙ ap (λ (x : Closeness). over (separators_of x h) list) same ∙ sym (is-served _ list z);
      }

  pub list-turned-down : (n : ℕ) → n ≡ number → ¬ (n ≡ 0) → Listed separators_of e h list number (record { number = n; separators = 0 }) list
  unfolding modes_answer modes_list
  list-turned-down n same d =
      let no : ¬ (number ≡ 0) = λ z. d (same ∙ z) in
      let none = sym (is-turned-down (length (separators_of e h)) 0 no) in
      record { answer = λ i. record { number = same i; separators = none i }; left = sym (is-turned-down (over (separators_of e h) list) list no) }

  -- and where a ground holds
  pub list-refused : (why : Ground) → ground_number why ≡ number → Listed separators_of e h list number (modes_given (Err why)) list
  list-refused why q = list-turned-down (ground_number why) q (ground-some why)

-- what holds of what was made holds if the number is 0
pub served-so : {T : Type 0} (P : Type 0) (r : Result T Ground) → OnOk r P → number_of r ≡ 0 → P
served-so P (Ok x) p z = p
served-so P (Err why) p z = absurd (ground-some why z)
