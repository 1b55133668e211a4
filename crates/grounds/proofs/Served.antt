-- What a call's number says: if a call is served, no ground holds; a later ground is tested only if none of the earlier ones holds. Assumes nothing.
use Prim.Native.Nat.{ℕ, ◌/◌, ◌≤◌, ◌<◌}
use mathlib.Core.Path.{◌≡◌, refl, sym, ap, ap₂, ◌∙◌}
use mathlib.Core.Bool.{Bool, true, false, cond, not, false≢true}
use mathlib.Core.List.{List, [], ◌∷◌, ◌++◌}
use lib.Dec.{ltb, eqb}
use lib.IntN.{ℤ}
use lib.ListN.{length}
use lib.Signed.{lt_z}
use native.Mathlib.Omega.{arith}
use native.Mathlib.Decide.{ℕ_discrete}
use borrow.Author.Tests.{ltb-false, eqb-true, eq-eqb, ne_eqb}
use Rattle.lists.proofs.Connectives.{both_false, was-true}
use Rattle.lists.proofs.Signed.{nlt-le-ℤ}
use Rattle.lists.specs.Lists.{total}
use Rattle.verdict.specs.Test.{Closeness, least_closeness, most_closeness}
use Rattle.verdict.specs.Settings.{Offered}
use Rattle.joinlog.specs.JoinLog.{record_numbers, line_log, same_numbers}
use Rattle.grounds.specs.Grounds.{Ground, first_ground, bad_length, large_sum, bad_closeness, few_places, bad_labels, other_log, fit_number, verdict_number, modes_number, log_number, replay_number, widen_number}

-- ---- grounds in sequence
pub ground-holds : (g : Ground) (gs : List Ground) → g.holds ≡ true → first_ground (g ∷ gs) ≡ g.number
unfolding first_ground
ground-holds g gs e = rw e refl

pub ground-passes : (g : Ground) (gs : List Ground) → g.holds ≡ false → first_ground (g ∷ gs) ≡ first_ground gs
unfolding first_ground
ground-passes g gs e = rw e refl

-- no ground has the number of a served call
abbrev pub Numbered : List Ground → Type 0
Numbered [] = Unit {0}
Numbered (g ∷ gs) = (0 < g.number) × Numbered gs

-- where the number is 0, the first ground does not hold, and the rest give 0
pub ground-none : (g : Ground) (gs : List Ground) → 0 < g.number → first_ground (g ∷ gs) ≡ 0 → (g.holds ≡ false) × (first_ground gs ≡ 0)
ground-none g gs n e = go g.holds refl
  where
    go : (t : Bool) → g.holds ≡ t → (g.holds ≡ false) × (first_ground gs ≡ 0)
    go true q = absurd (omega (arith, ground-holds g gs q))
    go false q = (q, sym (ground-passes g gs q) ∙ e)

pub grounds-served : (gs hs : List Ground) → Numbered gs → first_ground gs ≡ 0 → first_ground (gs ++ hs) ≡ first_ground hs
grounds-served [] hs n e = refl
grounds-served (g ∷ gs) hs n e =
    let r = ground-none g gs n.0 e in
    ground-passes g (gs ++ hs) r.0 ∙ grounds-served gs hs n.1 r.1

pub grounds-turned-down : (gs hs : List Ground) → ¬ (first_ground gs ≡ 0) → first_ground (gs ++ hs) ≡ first_ground gs
unfolding first_ground
grounds-turned-down [] hs n = absurd (n refl)
grounds-turned-down (g ∷ gs) hs n = go g.holds refl (grounds-turned-down gs hs)
  where
    go : (t : Bool) → g.holds ≡ t → (¬ (first_ground gs ≡ 0) → first_ground (gs ++ hs) ≡ first_ground gs) → first_ground (g ∷ (gs ++ hs)) ≡ first_ground (g ∷ gs)
    go true q ih = ground-holds g (gs ++ hs) q ∙ sym (ground-holds g gs q)
    go false q ih = ground-passes g (gs ++ hs) q ∙ ih (λ e. n (ground-passes g gs q ∙ e)) ∙ sym (ground-passes g gs q)

-- where the number is 0, the last ground does not hold
pub last_none : (gs : List Ground) (g : Ground) → Numbered (gs ++ (g ∷ [])) → first_ground (gs ++ (g ∷ [])) ≡ 0 → g.holds ≡ false
last_none [] g n e = (ground-none g [] n.0 e).0
last_none (f ∷ gs) g n e = last_none gs g n.1 (ground-none f (gs ++ (g ∷ [])) n.0 e).1

-- another last ground, which holds only where the last one does, gives the same number wherever that is not the number of the last one
pub last-kept : (gs : List Ground) (g h : Ground) → (h.holds ≡ true → g.holds ≡ true) → ¬ (first_ground (gs ++ (g ∷ [])) ≡ g.number)
    → first_ground (gs ++ (h ∷ [])) ≡ first_ground (gs ++ (g ∷ []))
last-kept [] g h only n = go g.holds h.holds refl refl
  where
    go : (s t : Bool) → g.holds ≡ s → h.holds ≡ t → first_ground (h ∷ []) ≡ first_ground (g ∷ [])
    go true t p q = absurd (n (ground-holds g [] p))
    go false true p q = absurd (false≢true (sym p ∙ only q))
    go false false p q = ground-passes h [] q ∙ sym (ground-passes g [] p)
last-kept (f ∷ gs) g h only n = go f.holds refl (last-kept gs g h only)
  where
    go : (t : Bool) → f.holds ≡ t → (¬ (first_ground (gs ++ (g ∷ [])) ≡ g.number) → first_ground (gs ++ (h ∷ [])) ≡ first_ground (gs ++ (g ∷ [])))
        → first_ground (f ∷ (gs ++ (h ∷ []))) ≡ first_ground (f ∷ (gs ++ (g ∷ [])))
    go true q ih = ground-holds f (gs ++ (h ∷ [])) q ∙ sym (ground-holds f (gs ++ (g ∷ [])) q)
    go false q ih =
        let passed = ground-passes f (gs ++ (g ∷ [])) q in
        ground-passes f (gs ++ (h ∷ [])) q ∙ ih (λ e. n (passed ∙ e)) ∙ sym passed

-- ---- histograms
-- 2 to 256 bins with a sum of at most 65,536
pub record Accepted (h : List ℕ) : Type 0 where
  pub some : 2 ≤ length h
  pub bins : length h ≤ 256
  pub counts : total h ≤ 65536

pub fit-served : (h : List ℕ) → fit_number h ≡ 0 → Accepted h
unfolding fit_number
fit-served h e =
    let a = ground-none (bad_length h) (large_sum h ∷ []) (omega arith) e in
    let b = ground-none (large_sum h) [] (omega arith) a.1 in
    let n = both_false (ltb (length h) 2) (ltb 256 (length h)) a.0 in
    record { some = ltb-false _ _ n.0; bins = ltb-false _ _ n.1; counts = ltb-false _ _ b.0 }

-- where ground 8 does not hold, the closeness is one that a call takes
pub closeness-offered : (e : Closeness) → (bad_closeness e).holds ≡ false → Offered e
closeness-offered e q =
    let n = both_false (lt_z e least_closeness) (lt_z most_closeness e) q in
    record { least = nlt-le-ℤ e least_closeness n.0; most = nlt-le-ℤ most_closeness e n.1 }

module _ (e : Closeness) (h : List ℕ) where
  pub verdict-turned-down : ¬ (fit_number h ≡ 0) → verdict_number e h ≡ fit_number h
  unfolding fit_number verdict_number
  verdict-turned-down n = grounds-turned-down (bad_length h ∷ large_sum h ∷ []) (bad_closeness e ∷ []) n

  pub verdict-asked : fit_number h ≡ 0 → verdict_number e h ≡ first_ground (bad_closeness e ∷ [])
  unfolding fit_number verdict_number
  verdict-asked z = grounds-served (bad_length h ∷ large_sum h ∷ []) (bad_closeness e ∷ []) (omega arith, (omega arith, tt)) z

  pub verdict-served : verdict_number e h ≡ 0 → (fit_number h ≡ 0) × Offered e
  unfolding fit_number verdict_number first_ground
  verdict-served z =
      let a = ground-none (bad_length h) (large_sum h ∷ bad_closeness e ∷ []) (omega arith) z in
      let b = ground-none (large_sum h) (bad_closeness e ∷ []) (omega arith) a.1 in
      let c = ground-none (bad_closeness e) [] (omega arith) b.1 in
      (ground-passes (bad_length h) (large_sum h ∷ []) a.0 ∙ ground-passes (large_sum h) [] b.0, closeness-offered e c.0)

module _ (e : Closeness) (h : List ℕ) (places : ℕ) where
  pub modes-turned-down : ¬ (verdict_number e h ≡ 0) → modes_number e h places ≡ verdict_number e h
  unfolding verdict_number modes_number
  modes-turned-down n = grounds-turned-down (bad_length h ∷ large_sum h ∷ bad_closeness e ∷ []) (few_places h places ∷ []) n

  pub modes-asked : verdict_number e h ≡ 0 → modes_number e h places ≡ first_ground (few_places h places ∷ [])
  unfolding verdict_number modes_number
  modes-asked z = grounds-served (bad_length h ∷ large_sum h ∷ bad_closeness e ∷ []) (few_places h places ∷ []) (omega arith, (omega arith, (omega arith, tt))) z

  pub modes-served : modes_number e h places ≡ 0 → (verdict_number e h ≡ 0) × (length h ≤ places)
  modes-served z = go (ℕ_discrete (verdict_number e h) 0)
    where
      go : Dec (verdict_number e h ≡ 0) → (verdict_number e h ≡ 0) × (length h ≤ places)
      go (yes y) = (y, ltb-false _ _ (ground-none (few_places h places) [] (omega arith) (sym (modes-asked y) ∙ z)).0)
      go (no n) = absurd (n (sym (modes-turned-down n) ∙ z))

-- every ground of modes has a number below that of another log
pub modes-below-20 : (e : Closeness) (h : List ℕ) (places : ℕ) → modes_number e h places < 20
unfolding modes_number first_ground
modes-below-20 e h places = go (bad_length h).holds (large_sum h).holds (bad_closeness e).holds (few_places h places).holds
  where
    go : (a b c d : Bool) → cond a 6 (cond b 7 (cond c 8 (cond d 10 0))) < 20
    go true b c d = omega arith
    go false true c d = omega arith
    go false false true d = omega arith
    go false false false true = omega arith
    go false false false false = omega arith

-- ---- a log of joins
module _ (e : Closeness) (h : List ℕ) (numbers : ℕ) where
  -- its grounds are those of modes, for as many places as the log has
  pub log-is-modes : log_number e h numbers ≡ modes_number e h (numbers / record_numbers)
  unfolding log_number modes_number
  log-is-modes = refl

module _ (e : Closeness) (h : List ℕ) (log : List ℤ) (places : ℕ) where
  abbrev earlier : List Ground
  earlier = bad_length h ∷ large_sum h ∷ bad_closeness e ∷ few_places h places ∷ []

  pub replay-turned-down : ¬ (modes_number e h places ≡ 0) → replay_number e h log places ≡ modes_number e h places
  unfolding modes_number replay_number
  replay-turned-down n = grounds-turned-down earlier (other_log e h log ∷ []) n

  pub replay-asked : modes_number e h places ≡ 0 → replay_number e h log places ≡ first_ground (other_log e h log ∷ [])
  unfolding modes_number replay_number
  replay-asked z = grounds-served earlier (other_log e h log ∷ []) (omega arith, (omega arith, (omega arith, (omega arith, tt)))) z

  -- where no earlier ground holds: the line's own log is served, and any other gets 20
  pub replay-same : modes_number e h places ≡ 0 → same_numbers log (line_log e h) ≡ true → replay_number e h log places ≡ 0
  unfolding first_ground
  replay-same z t = replay-asked z ∙ ground-passes (other_log e h log) [] (ap not t)

  pub replay-other : modes_number e h places ≡ 0 → same_numbers log (line_log e h) ≡ false → replay_number e h log places ≡ 20
  replay-other z f = replay-asked z ∙ ground-holds (other_log e h log) [] (ap not f)

  pub replay-served : replay_number e h log places ≡ 0 → (modes_number e h places ≡ 0) × (same_numbers log (line_log e h) ≡ true)
  replay-served z = go (ℕ_discrete (modes_number e h places) 0) (same_numbers log (line_log e h)) refl
    where
      go : Dec (modes_number e h places ≡ 0) → (t : Bool) → same_numbers log (line_log e h) ≡ t → (modes_number e h places ≡ 0) × (t ≡ true)
      go (no n) t q = absurd (n (sym (replay-turned-down n) ∙ z))
      go (yes y) true q = (y, refl)
      go (yes y) false q = absurd (omega (arith, replay-other y q, z))

-- ---- a place for each label
module _ (labels places : ℕ) where
  pub labels-alike : places ≡ labels → first_ground (bad_labels labels places ∷ []) ≡ 0
  unfolding first_ground
  labels-alike same = rw (eq-eqb places labels same) refl

  pub labels-unlike : ¬ (places ≡ labels) → first_ground (bad_labels labels places ∷ []) ≡ 9
  unfolding first_ground
  labels-unlike other = rw (ne_eqb places labels other) refl

  pub labels-served : first_ground (bad_labels labels places ∷ []) ≡ 0 → places ≡ labels
  labels-served z = eqb-true places labels (was-true (eqb places labels) (ground-none (bad_labels labels places) [] (omega arith) z).0)

  pub labels-refused : (n : ℕ) → n ≡ first_ground (bad_labels labels places ∷ []) → ¬ (n ≡ 0) → ¬ (places ≡ labels)
  labels-refused n e some same = some (e ∙ labels-alike same)

-- what was asked of one pair of numbers, said of another
module _ (labels places labels' places' : ℕ) where
  pub refused-alike : (n : ℕ) → n ≡ first_ground (bad_labels labels places ∷ []) → ¬ (n ≡ 0) → (places' ≡ labels' → places ≡ labels) → n ≡ first_ground (bad_labels labels' places' ∷ [])
  refused-alike n e some back =
      let other = labels-refused labels places n e some in
      e ∙ labels-unlike labels places other ∙ sym (labels-unlike labels' places' (λ same. other (back same)))

  pub served-alike : 0 ≡ first_ground (bad_labels labels places ∷ []) → (places ≡ labels → places' ≡ labels') → 0 ≡ first_ground (bad_labels labels' places' ∷ [])
  served-alike e on = sym (labels-alike labels' places' (on (labels-served labels places (sym e))))

  pub asked-alike : labels ≡ labels' → places ≡ places' → first_ground (bad_labels labels places ∷ []) ≡ first_ground (bad_labels labels' places' ∷ [])
  asked-alike e f = ap₂ (λ (l p : ℕ). first_ground (bad_labels l p ∷ [])) e f

-- ---- labels that are widened
-- the two lists are as long
pub widen-served : (narrow : List ℕ) (places : ℕ) → widen_number narrow places ≡ 0 → places ≡ length narrow
unfolding widen_number
widen-served narrow places z = labels-served (length narrow) places z

pub widen-refused-alike : (narrow : List ℕ) (places places' n : ℕ) → n ≡ widen_number narrow places → ¬ (n ≡ 0) → (places' ≡ length narrow → places ≡ length narrow) → n ≡ widen_number narrow places'
unfolding widen_number
widen-refused-alike narrow places places' n e some back = refused-alike (length narrow) places (length narrow) places' n e some back

pub widen-served-alike : (narrow : List ℕ) (places places' : ℕ) → 0 ≡ widen_number narrow places → (places ≡ length narrow → places' ≡ length narrow) → 0 ≡ widen_number narrow places'
unfolding widen_number
widen-served-alike narrow places places' e on = served-alike (length narrow) places (length narrow) places' e on
