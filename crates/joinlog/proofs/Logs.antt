-- The log of joins, record by record. Assumes nothing.
use Prim.Native.Nat.{ℕ, ◌+◌, ◌*◌, ◌<◌}
use mathlib.Core.Path.{◌≡◌, refl, sym, ap, ◌∙◌}
use mathlib.Core.Bool.{false}
use mathlib.Core.List.{List, [], ◌∷◌, ◌++◌, append_assoc, append-nil}
use native.Mathlib.Omega.{arith}
use lib.Dec.{eqb}
use lib.IntN.{ℤ}
use lib.ListN.{length, take, length-append}
use Rattle.lists.specs.Lists.{over}
use Rattle.lists.proofs.Buffers.{over_none, over-more}
use Rattle.segmentation.specs.declared.Join.{Join}
use Rattle.joinlog.specs.JoinLog.{record_of, numbers_of, record_numbers, log_of, same_numbers}
use Rattle.joinlog.proofs.Numbers.{same-more, same-never, same-nothing}

pub log-length : (js : List Join) → length (log_of js) ≡ record_numbers * length js
unfolding log_of
log-length [] = refl
log-length (j ∷ js) = omega (arith, log-length js)

pub log-append : (is js : List Join) → log_of (is ++ js) ≡ log_of is ++ log_of js
unfolding log_of
log-append [] js = refl
log-append (i ∷ is) js = ap (λ (xs : List ℤ). numbers_of (record_of i) ++ xs) (log-append is js)

-- ---- what is to be written: `done` is in the log, `rest` comes next
pub more-written : (done : List Join) (j : Join) (before log : List ℤ) (at : ℕ) → log ≡ over (log_of done) before → at ≡ record_numbers * length done
    → over (take at log ++ numbers_of (record_of j)) log ≡ over (log_of (done ++ (j ∷ []))) before
unfolding log_of
more-written done j before log at is place =
    let n : at ≡ length (log_of done) = place ∙ sym (log-length done) in
    rw (is, n) (over-more (log_of done) (numbers_of (record_of j)) before ∙ ap (λ (xs : List ℤ). over xs before) (sym (log-append done (j ∷ []))))

-- of the joins `all`, the first so many are written over `before`, and `rest` are left
pub record Written (all : List Join) (before log : List ℤ) (joins : ℕ) (rest : List Join) : Type 0 where
  pub done : List Join
  pub split : done ++ rest ≡ all
  pub count : length done ≡ joins
  pub is : log ≡ over (log_of done) before

pub written_none : (all : List Join) (before : List ℤ) → Written all before before 0 all
unfolding log_of
written_none all before = record { done = []; split = refl; count = refl; is = sym (over_none before) }

module _ {all : List Join} {before log : List ℤ} {joins : ℕ} where
  pub written-room : {j : Join} {rest : List Join} → Written all before log joins (j ∷ rest) → joins < length all
  written-room {j} {rest} w = omega (arith, ap length w.split, length-append w.done (j ∷ rest), w.count)

  pub written-more : {j : Join} {rest : List Join} → Written all before log joins (j ∷ rest)
      → (after : List ℤ) → after ≡ over (take (record_numbers * joins) log ++ numbers_of (record_of j)) log → Written all before after (joins + 1) rest
  written-more {j} {rest} w after put = record {
    done = w.done ++ (j ∷ []);
    split = append_assoc w.done (j ∷ []) rest ∙ w.split;
    count = omega (arith, length-append w.done (j ∷ []), w.count);
    is = put ∙ more-written w.done j before log (record_numbers * joins) w.is (ap (λ (k : ℕ). record_numbers * k) (sym w.count));
  }

  pub written_all : Written all before log joins [] → (joins ≡ length all) × (log ≡ over (log_of all) before)
  written_all w =
      let e : w.done ≡ all = sym (append-nil w.done) ∙ w.split in
      (sym w.count ∙ ap length e, w.is ∙ ap (λ (js : List Join). over (log_of js) before) e)

-- ---- a log that is followed: `rest` is left of it
-- when no join is left, it has to be at its end
pub log-ends : (rest : List ℤ) → same_numbers rest (log_of []) ≡ eqb (length rest) 0
unfolding log_of
log-ends rest = same-nothing rest

module _ (j : Join) (js : List Join) (rest : List ℤ) where
  -- it does not begin with the record of the next join
  pub log-departs : ((behind : List ℤ) → ¬ (rest ≡ numbers_of (record_of j) ++ behind)) → same_numbers rest (log_of (j ∷ js)) ≡ false
  unfolding log_of
  log-departs d = same-never (numbers_of (record_of j)) (log_of js) rest d

  -- it does: it goes on behind it
  pub log-goes-on : (behind : List ℤ) → rest ≡ numbers_of (record_of j) ++ behind → same_numbers behind (log_of js) ≡ same_numbers rest (log_of (j ∷ js))
  unfolding log_of
  log-goes-on behind e = sym (rw e (same-more (numbers_of (record_of j)) behind (log_of js)))
