-- Shuffled pixels have the same card: every count and every sum over them is the same, and the card depends on nothing else. Assumes nothing.
use Prim.Native.Nat.{ℕ}
use mathlib.Core.Path.{◌≡◌, refl, sym, ap, ap₂, fun_ext, ◌∙◌}
use mathlib.Core.Bool.{Bool, cond, ◌&&◌}
use mathlib.Core.List.{List, [], ◌∷◌, ◌++◌, map, flat_map}
use native.Mathlib.Omega.{arith}
use lib.Dec.{eqb}
use lib.ListN.{length, length-map}
use Rattle.lists.specs.Lists.{total, numbers, count_if, first_index}
use Rattle.lists.proofs.Counting.{count-total, filter-count, count-filter, filter-total}
use Rattle.pixel.specs.declared.Pixel.{Pixel}
use Rattle.verdict.specs.Test.{Closeness}
use Rattle.palette.specs.Levels.{Level, hue, saturation, intensity, grey_levels, colour_levels, bin_count, bin_of, histogram, modes_at, lies_in}
use Rattle.palette.specs.Cards.{Branch, all_greys, all_colours, members, histogram_in, mean_by, mean_of, entry_of, modes_found, in_child, child, divide, divide_some, branches, entries, label, labels}
use Rattle.palette.specs.Laws.{Shuffle, none, keep, swap, chain, ShuffleKeeps}
use Rattle.palette.specs.declared.Entry.{Entry}

-- ---- sums and counts over shuffled members
pub shuffle-total : {A : Type 0} {xs ys : List A} → Shuffle xs ys → (f : A → ℕ) → total (map f xs) ≡ total (map f ys)
shuffle-total none f = refl
shuffle-total (keep s) f = omega (arith, shuffle-total s f)
shuffle-total swap f = omega arith
shuffle-total (chain s t) f = shuffle-total s f ∙ shuffle-total t f

pub shuffle-count : {A : Type 0} {xs ys : List A} → Shuffle xs ys → (test : A → Bool) → count_if test xs ≡ count_if test ys
shuffle-count {xs = xs} {ys = ys} s test = count-total test xs ∙ shuffle-total s (λ x. cond (test x) 1 0) ∙ sym (count-total test ys)

-- ---- the card rests on them alone
module _ (ps qs : List Pixel) (s : Shuffle ps qs) where
  members-same : (b : Branch) → length (members ps b) ≡ length (members qs b)
  unfolding members
  members-same b = filter-count b.has ps ∙ shuffle-count s b.has ∙ sym (filter-count b.has qs)

  histogram-same : (l : Level) (b : Branch) → histogram_in ps l b ≡ histogram_in qs l b
  unfolding histogram_in histogram members
  histogram-same l b =
      ap (λ (f : ℕ → ℕ). map f (numbers 0 (bin_count l)))
      (fun_ext (λ (c : ℕ). count-filter b.has (λ p. eqb (bin_of l p) c) ps ∙ shuffle-count s (λ p. b.has p && eqb (bin_of l p) c)
      ∙ sym (count-filter b.has (λ p. eqb (bin_of l p) c) qs)))

  mean-same : (f : Pixel → ℕ) (b : Branch) → mean_of (map f (members ps b)) ≡ mean_of (map f (members qs b))
  unfolding mean_of members
  mean-same f b =
      ap₂ mean_by
      (filter-total b.has f ps ∙ shuffle-total s (λ p. cond (b.has p) (f p) 0) ∙ sym (filter-total b.has f qs))
      (length-map (members ps b) f ∙ members-same b ∙ sym (length-map (members qs b) f))

  entry-same : (b : Branch) → entry_of ps b ≡ entry_of qs b
  unfolding entry_of
  entry-same b =
      let r = mean-same (λ (p : Pixel). p.red) b in
      let g = mean-same (λ (p : Pixel). p.green) b in
      let u = mean-same (λ (p : Pixel). p.blue) b in
      let n = members-same b in
      rw (r, g, u, n)

  module _ (e : Closeness) where
    modes-same : (l : Level) (b : Branch) → modes_found e ps l b ≡ modes_found e qs l b
    unfolding modes_found
    modes-same l b = ap (λ (h : List ℕ). length (modes_at e l h)) (histogram-same l b)

    has_same : (l : Level) (b : Branch) (m : ℕ) → in_child e ps l b m ≡ in_child e qs l b m
    unfolding in_child
    has_same l b m = ap {B = Pixel → Bool} (λ (h : List ℕ) (p : Pixel). b.has p && lies_in e l h m (bin_of l p)) (histogram-same l b)

    child-same : (l : Level) (b : Branch) (m : ℕ) → child e ps l b m ≡ child e qs l b m
    unfolding child
    child-same hue b m = rw (has_same hue b m)
    child-same saturation b m = rw (has_same saturation b m)
    child-same intensity b m = rw (has_same intensity b m)

    divide-same : (ls : List Level) (b : Branch) → divide e ps ls b ≡ divide e qs ls b
    unfolding divide
    divide-same [] b = refl
    divide-same (l ∷ ls) b =
        ap₂ (λ (f : ℕ → List Branch) (n : ℕ). flat_map f (numbers 0 n))
        (fun_ext (λ (m : ℕ). ap (divide e ps ls) (child-same l b m) ∙ divide-same ls (child e qs l b m)))
        (modes-same l b)

    kind-same : (ls : List Level) (b : Branch) → divide_some e ps ls b ≡ divide_some e qs ls b
    unfolding divide_some
    kind-same ls b = ap₂ (λ (n : ℕ) (bs : List Branch). cond (eqb n 0) [] bs) (members-same b) (divide-same ls b)

    pub branches-same : branches e ps ≡ branches e qs
    unfolding branches
    branches-same = ap₂ (λ (gs cs : List Branch). gs ++ cs) (kind-same grey_levels all_greys) (kind-same colour_levels all_colours)

    entries-same : entries e ps ≡ entries e qs
    unfolding entries
    entries-same = ap₂ (λ (f : Branch → Entry) (bs : List Branch). map f bs) (fun_ext entry-same) branches-same

    label_same : (p : Pixel) → label e ps p ≡ label e qs p
    unfolding label
    label_same p = ap (first_index (λ (b : Branch). b.has p)) branches-same

pub shuffle-keeps : ShuffleKeeps
unfolding labels
shuffle-keeps e ps qs s = record {
  same_entries = sym (entries-same ps qs s e);
  same_label = λ p. sym (label_same ps qs s e p);
  carried = ap (λ (f : Pixel → ℕ). map f qs) (fun_ext (λ (p : Pixel). sym (label_same ps qs s e p)));
}
