-- The leaves of a range are the branches below its branch: a range holds the numbers of its branch's pixels. Assumes nothing.
use Prim.Native.Nat.{ℕ, zero, suc, ◌+◌, ◌*◌, ◌≤◌, ◌<◌}
use mathlib.Core.Path.{◌≡◌, refl, sym, ap, ap₂, fun_ext, ◌∙◌}
use mathlib.Core.Bool.{Bool, true, false, cond, ◌&&◌}
use mathlib.Core.List.{List, [], ◌∷◌, ◌++◌, map, flat_map, map-map}
use native.Mathlib.Omega.{arith}
use lib.Dec.{eqb}
use lib.ListN.{length}
use Rattle.lists.specs.Lists.{numbers, count_if, filter}
use Rattle.lists.proofs.Each.{each_all, each_number}
use Rattle.lists.proofs.Filters.{numbers-length, filter_same}
use Rattle.lists.proofs.Places.{numbers-at}
use Rattle.lists.proofs.Firsts.{passes_at_first}
use Rattle.lists.proofs.Counting.{one-counted, count_map, eqb-turned}
use Rattle.lists.proofs.Flattened.{flat_map_same, map_same}
use Rattle.lists.proofs.Tabled.{table_is}
use Rattle.pixel.specs.declared.Pixel.{Pixel}
use Rattle.pixel.specs.Ranges.{Bytes}
use Rattle.verdict.specs.Test.{Closeness}
use Rattle.palette.specs.Levels.{Level, bin_count, bin_of, histogram, modes_at, lies_in}
use Rattle.palette.specs.Cards.{Branch, members, histogram_in, modes_found, in_child, child, divide}
use Rattle.palette.specs.Sound.{pixel_at}
use Rattle.palette.proofs.LevelBins.{bin-below, bin-in-one-mode}
use Rattle.palette.proofs.Partition.{histogram-in-length, child-has}
use Rattle.dividing.specs.Sorted.{mode_base, tally, marked}
use Rattle.dividing.specs.Splitting.{level_at, levels_left, mode_of, bins_of, modes_of, marks_of, leaves, numbers_of, code_of, leaf_of}

-- ---- lists
filter_map : {A B : Type 0} (f : A → B) (test : B → Bool) (xs : List A) → map f (filter (λ x. test (f x)) xs) ≡ filter test (map f xs)
unfolding filter
filter_map f test [] = refl
filter_map {A = A} {B = B} f test (x ∷ xs) = go (test (f x)) (filter_map f test xs)
  where
    go : (t : Bool) → map f (filter (λ x. test (f x)) xs) ≡ filter test (map f xs)
        → map f (cond t (x ∷ filter (λ x. test (f x)) xs) (filter (λ x. test (f x)) xs)) ≡ cond t (f x ∷ filter test (map f xs)) (filter test (map f xs))
    go true e = ap (λ ys. f x ∷ ys) e
    go false e = e

filter-filter : {A : Type 0} (s t : A → Bool) (xs : List A) → filter t (filter s xs) ≡ filter (λ x. s x && t x) xs
unfolding filter
filter-filter s t [] = refl
filter-filter {A = A} s t (x ∷ xs) = go (s x) (filter-filter s t xs)
  where
    go : (b : Bool) → filter t (filter s xs) ≡ filter (λ x. s x && t x) xs
        → filter t (cond b (x ∷ filter s xs) (filter s xs)) ≡ cond (b && t x) (x ∷ filter (λ x. s x && t x) xs) (filter (λ x. s x && t x) xs)
    go true e = ap (λ ys. cond (t x) (x ∷ ys) ys) e
    go false e = e

map-flat-map : {A B C : Type 0} (f : B → C) (g : A → List B) (xs : List A) → map f (flat_map g xs) ≡ flat_map (λ x. map f (g x)) xs
unfolding flat_map
map-flat-map f g [] = refl
map-flat-map f g (x ∷ xs) = map_both f (g x) (flat_map g xs) ∙ ap (λ ys. map f (g x) ++ ys) (map-flat-map f g xs)
  where
    map_both : {B C : Type 0} (f : B → C) (us vs : List B) → map f (us ++ vs) ≡ map f us ++ map f vs
    map_both f [] vs = refl
    map_both f (u ∷ us) vs = ap (λ ys. f u ∷ ys) (map_both f us vs)

pub marked-filter : (m : ℕ) (g : ℕ → ℕ) (xs : List ℕ) → marked m (map g xs) xs ≡ filter (λ x. eqb m (g x)) xs
unfolding marked filter
marked-filter m g [] = refl
marked-filter m g (x ∷ xs) = ap (λ (ys : List ℕ). cond (eqb m (g x)) (x ∷ ys) ys) (marked-filter m g xs)

-- ---- the numbers of a branch's pixels
pub members-numbered : (ps : List Pixel) (b : Branch) → map (pixel_at ps) (numbers_of ps b) ≡ members ps b
unfolding numbers_of members
members-numbered ps b =
    filter_map (pixel_at ps) b.has (numbers 0 (length ps))
    ∙ ap (filter b.has) (sym (table_is (pixel_at ps) (length ps) (record { red = 0; green = 0; blue = 0 }) ps refl (λ k l. refl)))

module _ (e : Closeness) (ps : List Pixel) (bytes : (i : ℕ) → Bytes (pixel_at ps i)) where
  -- the histogram of a range is that of its branch
  histogram-is : (l : Level) (b : Branch) → tally (bin_count l) (bins_of ps l (numbers_of ps b)) ≡ histogram_in ps l b
  unfolding tally bins_of histogram_in histogram
  histogram-is l b =
      map_same _ _ (numbers 0 (bin_count l)) (each_all _ (numbers 0 (bin_count l)) (λ k.
      count_map (eqb k) (λ i. bin_of l (pixel_at ps i)) (numbers_of ps b)
      ∙ ap (λ (test : ℕ → Bool). count_if test (numbers_of ps b)) (fun_ext (λ (i : ℕ). eqb-turned k (bin_of l (pixel_at ps i))))
      ∙ sym (count_map (λ p. eqb (bin_of l p) k) (pixel_at ps) (numbers_of ps b))
      ∙ ap (count_if (λ p. eqb (bin_of l p) k)) (members-numbered ps b)))

  modes-are : (l : Level) (b : Branch) → modes_of e l (bins_of ps l (numbers_of ps b)) ≡ modes_found e ps l b
  unfolding modes_of modes_found
  modes-are l b = ap (λ (h : List ℕ). length (modes_at e l h)) (histogram-is l b)

  -- a mode's range is the numbers of its child
  mode-range : (l : Level) (b : Branch) (m : ℕ) → m < modes_found e ps l b
      → marked m (marks_of e l (bins_of ps l (numbers_of ps b))) (numbers_of ps b) ≡ numbers_of ps (child e ps l b m)
  unfolding marks_of bins_of numbers_of modes_found in_child mode_of
  mode-range l b m k =
      let h = histogram_in ps l b in
      let n = length (modes_at e l h) in
      let all = numbers 0 (length ps) in
      let own = numbers_of ps b in
      let at : ℕ → ℕ = λ i. bin_of l (pixel_at ps i) in
      let lies : (i : ℕ) → eqb m (mode_of e l h (at i)) ≡ lies_in e l h m (at i) = λ i.
      let test : ℕ → Bool = λ j. lies_in e l h j (at i) in
      let one = one-counted n test (bin-in-one-mode e l h (histogram-in-length ps l b) (at i) (bin-below l (pixel_at ps i) (bytes i))) in
      sym (passes_at_first test (numbers 0 n) 0 one m (omega (arith, numbers-length 0 n))) ∙ ap test (numbers-at 0 n m 0 k ∙ omega arith) in
      ap (λ (z : List ℕ). marked m (map (mode_of e l z) (map at own)) own) (histogram-is l b)
      ∙ ap (λ (ks : List ℕ). marked m ks own) (map-map (mode_of e l h) at own)
      ∙ marked-filter m (λ i. mode_of e l h (at i)) own
      ∙ filter_same (λ i. eqb m (mode_of e l h (at i))) (λ i. lies_in e l h m (at i)) own lies
      ∙ filter-filter (λ i. b.has (pixel_at ps i)) (λ i. lies_in e l h m (at i)) all
      ∙ filter_same (λ i. b.has (pixel_at ps i) && lies_in e l h m (at i)) (λ i. (child e ps l b m).has (pixel_at ps i)) all
      (λ i. sym (ap (λ (has : Pixel → Bool). has (pixel_at ps i)) (child-has e ps l b m)))

  -- ---- codes
  -- the code of a branch with so many levels left
  abbrev pub code_at : ℕ → Branch → ℕ
  code_at zero b = code_of b
  code_at (suc zero) b = (b.kind * mode_base + b.hue) * mode_base + b.saturation
  code_at (suc (suc zero)) b = b.kind * mode_base + b.hue
  code_at (suc (suc (suc n))) b = b.kind

  code-child : (left : ℕ) (b : Branch) (m : ℕ) → left ≤ 2 → code_at left (child e ps (level_at (suc left)) b m) ≡ code_at (suc left) b * mode_base + m
  unfolding child
  code-child zero b m l = refl
  code-child (suc zero) b m l = refl
  code-child (suc (suc zero)) b m l = refl
  code-child (suc (suc (suc n))) b m l = absurd (omega arith)

  pub leaves-branches : (left : ℕ) (b : Branch) → left ≤ 3 → leaves e ps left (code_at left b) (numbers_of ps b) ≡ map (leaf_of ps) (divide e ps (levels_left left) b)
  unfolding leaves divide
  leaves-branches zero b l = refl
  leaves-branches (suc left) b l =
      let v = level_at (suc left) in
      let xs = numbers_of ps b in
      let keys = bins_of ps v xs in
      ap (λ (n : ℕ). flat_map (λ m. leaves e ps left (code_at (suc left) b * mode_base + m) (marked m (marks_of e v keys) xs)) (numbers 0 n)) (modes-are v b)
      ∙ flat_map_same _ (λ m. map (leaf_of ps) (divide e ps (levels_left left) (child e ps v b m))) (numbers 0 (modes_found e ps v b))
      (each_number _ 0 (modes_found e ps v b) (λ m a k.
      ap₂ (leaves e ps left) (sym (code-child left b m (omega arith))) (mode-range v b m (omega arith))
      ∙ leaves-branches left (child e ps v b m) (omega arith)))
      ∙ sym (map-flat-map (leaf_of ps) (λ m. divide e ps (levels_left left) (child e ps v b m)) (numbers 0 (modes_found e ps v b)))
