-- Laws of the walk along a line: the separators found, plus the bin where the counts last fell if they rise next, are those of the bins passed. Assumes nothing.
use Prim.Native.Nat.{ℕ, zero, suc, ◌+◌, ◌-◌, ◌≤◌, ◌<◌}
use mathlib.Core.Path.{◌≡◌, refl, sym, ap, ◌∙◌}
use mathlib.Core.Bool.{Bool, true, false, cond}
use mathlib.Core.List.{List, [], ◌∷◌, ◌++◌, append-nil}
use native.Mathlib.Omega.{arith}
use native.Mathlib.Numerals.{add-one}
use lib.Dec.{ltb}
use lib.ListN.{length, take, set, length-append}
use lib.Seq.{take-suc-set, length-take-le}
use borrow.Author.Tests.{lt-ltb, le-ltb}
use Rattle.std.specs.Prelude.{Option, None, Some, IfSome}
use Rattle.lists.specs.Lists.{numbers, filter}
use Rattle.lists.proofs.Cases.{by_cond, by_order}
use Rattle.lists.proofs.Filters.{filter_more, filter-length, numbers-length}
use Rattle.segmentation.specs.Segments.{bin_at, is_valley, first_separators}
use Rattle.segmentation.specs.Walk.{fell_after, pending}
use Rattle.segmentation.proofs.Valleys.{rises_after, rises-level, rises-up, rises-down, rises-end, valley-fell, valley-not}

pub pending-none : (fell : Option ℕ) → pending fell false ≡ []
unfolding pending
pending-none None = refl
pending-none (Some bin) = refl

pub pending-nowhere : (t : Bool) → pending None t ≡ []
unfolding pending
pending-nowhere t = refl

pub pending-some : (bin : ℕ) (t : Bool) → pending (Some bin) t ≡ cond t (bin ∷ []) []
unfolding pending
pending-some bin t = refl

-- a store in the place after those found
pub pending-store : (separators : List ℕ) (n bin : ℕ) (t : Bool) → n < length separators → t ≡ true → take (n + 1) (set separators n bin) ≡ take n separators ++ pending (Some bin) t
pending-store separators n bin t l e = rw (add-one n, e, pending-some bin true) (take-suc-set separators n bin l)

module _ (fell : Option ℕ) (i x y : ℕ) where
  pub fell-down : y < x → fell_after fell i x y ≡ Some i
  unfolding fell_after
  fell-down h = rw (lt-ltb y x h)

  pub fell-up : x < y → fell_after fell i x y ≡ None
  unfolding fell_after
  fell-up h = rw (le-ltb y x (omega arith), lt-ltb x y h)

  pub fell-level : x ≤ y → y ≤ x → fell_after fell i x y ≡ fell
  unfolding fell_after
  fell-level h k = rw (le-ltb y x h, le-ltb x y k)

  pub fell-within : (m : ℕ) → IfSome fell (λ bin. bin ≤ m) → i ≤ m → IfSome (fell_after fell i x y) (λ bin. bin ≤ m)
  unfolding fell_after
  fell-within m h k =
      by_cond (λ (z : Option ℕ). IfSome z (λ bin. bin ≤ m)) (ltb y x) (Some i) (cond (ltb x y) None fell) (λ e. k)
      (λ e. by_cond (λ (z : Option ℕ). IfSome z (λ bin. bin ≤ m)) (ltb x y) None fell (λ f. tt) (λ f. h))

-- xs are the separators found up to bin i, but for the place where the bins last fell
abbrev pub Walked : List ℕ → ℕ → List ℕ → Option ℕ → Type 0
Walked h i xs fell = 0 ∷ filter (is_valley h) (numbers 1 i) ≡ xs ++ pending fell (rises_after h i)

pub walk_start : (h : List ℕ) → Walked h 0 (0 ∷ []) None
unfolding filter numbers pending
walk_start h = refl

module _ (h : List ℕ) (i : ℕ) (xs : List ℕ) (fell : Option ℕ) (l : suc i < length h) (w : Walked h i xs fell) where
  more : 0 ∷ filter (is_valley h) (numbers 1 (suc i)) ≡ (xs ++ pending fell (rises_after h i)) ++ cond (is_valley h (suc i)) (suc i ∷ []) []
  more =
      let z : 1 + i ≡ suc i = omega arith in
      ap (λ (ys : List ℕ). 0 ∷ ys) (rw z at (filter_more (is_valley h) 1 i)) ∙ ap (λ (ys : List ℕ). ys ++ cond (is_valley h (suc i)) (suc i ∷ []) []) w

  pub walk_more : Walked h (i + 1) (xs ++ pending fell (ltb (bin_at h i) (bin_at h (i + 1)))) (fell_after fell (i + 1) (bin_at h i) (bin_at h (i + 1)))
  walk_more =
      let x = bin_at h i in
      let y = bin_at h (suc i) in
      rw (add-one i) (more ∙ by_order y x
      (λ d. rw (fell-down fell (suc i) x y d, le-ltb x y (omega arith), rises-down h i l d, valley-fell h i l d, pending-some (suc i) (rises_after h (suc i))))
      (λ d. by_order x y
      (λ u. rw (fell-up fell (suc i) x y u, lt-ltb x y u, rises-up h i l u, valley-not h i l d, pending-nowhere (rises_after h (suc i))))
      (λ u. rw (fell-level fell (suc i) x y d u, le-ltb x y u, rises-level h i l (omega arith), valley-not h i l d, pending-none fell, append-nil xs)
      (append-nil (xs ++ pending fell (rises_after h (suc i)))))))

-- the last bin is no valley
last-not : (h : List ℕ) (i : ℕ) → suc (suc i) ≡ length h → is_valley h (suc i) ≡ false
last-not h i z =
    by_order (bin_at h (suc i)) (bin_at h i)
    (λ d. valley-fell h i (omega arith) d ∙ rises-end h (suc i) (omega arith))
    (λ d. valley-not h i (omega arith) d)

pub walk_end : (h : List ℕ) (i : ℕ) (xs : List ℕ) (fell : Option ℕ) → 2 ≤ length h → suc i ≡ length h → Walked h i xs fell → xs ++ i ∷ [] ≡ first_separators h
unfolding first_separators
walk_end h zero xs fell two z w = absurd (omega arith)
walk_end h (suc i) xs fell two z w =
    let a : length h - 2 ≡ i = omega arith in
    let b : length h - 1 ≡ suc i = omega arith in
    let c : 1 + i ≡ suc i = omega arith in
    let more = rw (c, last-not h i z) at (filter_more (is_valley h) 1 i) in
    let found : xs ≡ 0 ∷ filter (is_valley h) (numbers 1 i) =
    sym (append-nil xs) ∙ ap (λ (ys : List ℕ). xs ++ ys) (sym (pending-none fell)) ∙ ap (λ (t : Bool). xs ++ pending fell t) (sym (rises-end h (suc i) (omega arith)))
    ∙ sym w ∙ ap (λ (ys : List ℕ). 0 ∷ ys) (more ∙ append-nil (filter (is_valley h) (numbers 1 i))) in
    rw (a, b, found)

pub separators-length : (h : List ℕ) → 2 ≤ length h → length (first_separators h) ≤ length h
unfolding first_separators
separators-length h two =
    omega (
      arith,
      length-append (filter (is_valley h) (numbers 1 (length h - 2))) ((length h - 1) ∷ []),
      filter-length (is_valley h) (numbers 1 (length h - 2)),
      numbers-length 1 (length h - 2),
    )

-- there is room for the last one
pub walk-room : (h : List ℕ) (i : ℕ) (separators : List ℕ) (n : ℕ) (fell : Option ℕ) → 2 ≤ length h → suc i ≡ length h → n ≤ length separators → Walked h i (take n separators) fell → n < length h
walk-room h i separators n fell two z room w =
    omega (
      arith,
      ap length (walk_end h i (take n separators) fell two z w),
      length-append (take n separators) (i ∷ []),
      length-take-le n separators room,
      separators-length h two,
    )
