-- The ranges of the entries, one after the other among the numbers. Assumes nothing.
use Prim.Native.Nat.{ℕ, zero, suc, ◌+◌, ◌-◌, ◌≤◌, ◌<◌}
use mathlib.Core.Path.{◌≡◌, refl, sym, ap, ap₂, ◌∙◌}
use mathlib.Core.Bool.{Bool, true, false, cond}
use mathlib.Core.List.{List, [], ◌∷◌, ◌++◌, map, flat_map, append_assoc}
use native.Mathlib.Omega.{arith}
use lib.ListN.{length, take, drop, get_or, length-map, length-append, length-take, length-drop, take-append-drop, get_or-append}
use lib.Seq.{length-take-le, take-length, take-append_seam, drop-append-add, get_or-take, get_or-drop}
use borrow.Author.Tests.{leb-true}
use Rattle.lists.specs.Lists.{total, numbers}
use Rattle.lists.proofs.Cases.{by_cond}
use Rattle.lists.proofs.Each.{Each, each_at, each_all, each-flat-map, each_number, each-filter}
use Rattle.lists.proofs.Parts.{total-take-mono}
use Rattle.lists.proofs.Places.{map_at}
use Rattle.lists.proofs.Sums.{total-more}
use Rattle.pixel.specs.declared.Pixel.{Pixel}
use Rattle.verdict.specs.Test.{Closeness}
use Rattle.palette.specs.Cards.{Branch, all_greys, branches, entries, most_entries}
use Rattle.palette.specs.Sound.{pixel_at}
use Rattle.palette.proofs.OneEntry.{entries-length}
use Rattle.dividing.specs.Sorted.{AllBelow}
use Rattle.dividing.specs.Splitting.{numbers_of}
use Rattle.making.specs.Making.{range_of, RangesLaid, held_of, fits, PixelsLaid}

-- ---- lists laid end to end
module _ {A : Type 0} (f : A → List ℕ) where
  abbrev pub lengths : List A → List ℕ
  lengths bs = map (λ b. length (f b)) bs

  pub flat-length : (bs : List A) → total (lengths bs) ≡ length (flat_map f bs)
  unfolding flat_map
  flat-length [] = refl
  flat-length (b ∷ bs) = omega (arith, length-append (f b) (flat_map f bs), flat-length bs)

  pub flat-many : (bs : List A) → Each (λ b. 0 < length (f b)) bs → length bs ≤ length (flat_map f bs)
  unfolding flat_map
  flat-many [] h = omega arith
  flat-many (b ∷ bs) h = omega (arith, length-append (f b) (flat_map f bs), flat-many bs h.1, h.0)

  pub flat-part : (bs : List A) (rest : List ℕ) (k : ℕ) (d : A) → k < length bs
      → take (length (f (get_or bs k d))) (drop (total (take k (lengths bs))) (flat_map f bs ++ rest)) ≡ f (get_or bs k d)
  unfolding flat_map
  flat-part [] rest k d l = absurd (omega arith)
  flat-part (b ∷ bs) rest zero d l = rw append_assoc (take-append_seam (f b) (flat_map f bs ++ rest))
  flat-part (b ∷ bs) rest (suc k) d l =
      ap (λ (z : List ℕ). take (length (f (get_or bs k d))) (drop (length (f b) + total (take k (lengths bs))) z)) (append_assoc (f b) (flat_map f bs) rest)
      ∙ ap (take (length (f (get_or bs k d)))) (drop-append-add (f b) (flat_map f bs ++ rest) (total (take k (lengths bs)))) ∙ flat-part bs rest k d (omega arith)

-- ---- the range of entry k, which begins where those before it end
module _ (xs sizes : List ℕ) (pixels : ℕ) (r : RangesLaid xs sizes pixels) (k at : ℕ) (start : at ≡ total (take k sizes)) (more : k < length sizes) where
  pub next_start : at + get_or sizes k 0 ≡ total (take (k + 1) sizes)
  next_start = ap (λ (j : ℕ). j + get_or sizes k 0) start ∙ sym (total-more sizes k more)

  pub next-within : at + get_or sizes k 0 ≤ total sizes
  next-within = omega (arith, next_start, total-take-mono (k + 1) (length sizes) sizes (omega arith), ap total (take-length sizes))

  pub part-is : take (at + get_or sizes k 0 - at) (drop at xs) ≡ range_of sizes xs k
  part-is = let z : at + get_or sizes k 0 - at ≡ get_or sizes k 0 = omega arith in ap₂ (λ (i j : ℕ). take i (drop j xs)) z start

  pub part-long : length (take (at + get_or sizes k 0 - at) (drop at xs)) ≡ get_or sizes k 0
  part-long = length-take-le (at + get_or sizes k 0 - at) (drop at xs) (omega (arith, next-within, r.whole, length-drop at xs)) ∙ omega arith

  pub part_in : AllBelow (take (at + get_or sizes k 0 - at) (drop at xs)) pixels
  part_in i l = rw (get_or-take (at + get_or sizes k 0 - at) (drop at xs) i 0 (omega (arith, part-long)), get_or-drop at xs i 0) (r.inside (at + i) (omega (arith, part-long, next-within)))

-- ---- any part of the numbers that the ranges take up
pub slice-few : (xs : List ℕ) (a b most : ℕ) → b ≤ most → length (take (b - a) (drop a xs)) ≤ most
slice-few xs a b most h = omega (arith, length-take (b - a) (drop a xs))

pub slice_in : (xs sizes : List ℕ) (pixels : ℕ) → RangesLaid xs sizes pixels → (a b : ℕ) → b ≤ total sizes → AllBelow (take (b - a) (drop a xs)) pixels
slice_in xs sizes pixels r a b h i l =
    let inside : i < b - a = omega (arith, length-take (b - a) (drop a xs)) in
    rw (get_or-take (b - a) (drop a xs) i 0 inside, get_or-drop a xs i 0) (r.inside (a + i) (omega arith))

-- ---- the ranges are those of branches, as many as a card may hold, and other numbers stand after theirs
pub record BranchesLaid (ps : List Pixel) (bs : List Branch) (xs : List ℕ) : Type 0 where
  pub few : length bs ≤ most_entries
  pub within : length (flat_map (numbers_of ps) bs) ≤ length ps
  pub rest : List ℕ
  pub order : xs ≡ flat_map (numbers_of ps) bs ++ rest

module _ (ps : List Pixel) (bs : List Branch) (xs : List ℕ) (d : BranchesLaid ps bs xs) where
  abbrev own : List ℕ
  own = flat_map (numbers_of ps) bs

  own_in : AllBelow own (length ps)
  unfolding numbers_of
  own_in =
      let P : ℕ → Type 0 = λ x. x < length ps in
      each_at P own 0
      (each-flat-map P (numbers_of ps) bs (each_all _ bs (λ b. each-filter P (λ i. b.has (pixel_at ps i)) (numbers 0 (length ps)) (each_number P 0 (length ps) (λ i a l. omega arith)))))

  pub ranges-laid : RangesLaid xs (lengths (numbers_of ps) bs) (length ps)
  ranges-laid = record {
    few = omega (arith, d.few, length-map bs (λ b. length (numbers_of ps b)));
    whole = omega (arith, flat-length (numbers_of ps) bs, ap length d.order, length-append own d.rest);
    inside = λ i l. let k : i < length own = omega (arith, flat-length (numbers_of ps) bs) in rw d.order (rw (get_or-append own d.rest 0 i k) (own_in i k));
  }

  -- entry k has the numbers of branch k
  pub range_at : (k : ℕ) → k < length bs → range_of (lengths (numbers_of ps) bs) xs k ≡ numbers_of ps (get_or bs k all_greys)
  range_at k l =
      ap₂ (λ (z : ℕ) (ys : List ℕ). take z (drop (total (take k (lengths (numbers_of ps) bs))) ys)) (map_at (λ b. length (numbers_of ps b)) bs k all_greys 0 l) d.order
      ∙ flat-part (numbers_of ps) bs d.rest k all_greys l

-- ---- the branches whose entries a card holds: none where there are too many
module _ (e : Closeness) (ps : List Pixel) where
  abbrev pub held_branches : List Branch
  held_branches = cond (fits e ps) (branches e ps) []

  all_held : fits e ps ≡ true → length (branches e ps) ≤ most_entries
  all_held t = omega (arith, leb-true (length (entries e ps)) most_entries t, entries-length e ps)

  pub held-laid : (xs sizes : List ℕ) → PixelsLaid e ps xs sizes → BranchesLaid ps held_branches xs
  unfolding flat_map
  held-laid xs sizes d =
      by_cond (λ (bs : List Branch). BranchesLaid ps bs xs) (fits e ps) (branches e ps) []
      (λ t. record {
        few = all_held t;
        within = omega (arith, ap length d.numbered, length-take (length ps) xs);
        rest = drop (length ps) xs;
        order = sym (take-append-drop (length ps) xs) ∙ ap (λ (z : List ℕ). z ++ drop (length ps) xs) d.numbered;
      })
      (λ t. record { few = omega arith; within = omega arith; rest = xs; order = refl })

  -- a figure of each branch stands in the first places
  pub held_first : (f : Branch → ℕ) (zs : List ℕ) → (length (branches e ps) ≤ most_entries → take (length (branches e ps)) zs ≡ map f (branches e ps)) → (n : ℕ) → n ≡ length (entries e ps)
      → take (held_of n) zs ≡ map f held_branches
  unfolding held_of
  held_first f zs first n q = rw q (go (fits e ps) refl)
    where
      go : (t : Bool) → fits e ps ≡ t → take (cond t (length (entries e ps)) 0) zs ≡ map f (cond t (branches e ps) [])
      go true t = rw (entries-length e ps) (first (all_held t))
      go false t = refl
