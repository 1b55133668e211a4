-- No mode of a histogram with counts is empty, so no child of a branch with pixels is empty. Assumes nothing.
use Prim.Native.Nat.{ℕ, ◌<◌}
use mathlib.Core.Path.{◌≡◌, sym, ap, ◌∙◌}
use mathlib.Core.Bool.{Bool, true}
use mathlib.Core.List.{List}
use native.Mathlib.Omega.{arith}
use lib.Dec.{eqb}
use lib.ListN.{length}
use borrow.Author.Tests.{eqb-true}
use Rattle.lists.specs.Lists.{total, count_if}
use Rattle.lists.proofs.Each.{Each, each-filter}
use Rattle.lists.proofs.Counting.{filter-count, count-filter, count-mono}
use Rattle.pixel.specs.declared.Pixel.{Pixel}
use Rattle.pixel.specs.Ranges.{Bytes}
use Rattle.verdict.specs.Test.{Closeness}
use Rattle.segmentation.specs.Segments.{bin_at}
use Rattle.segmentation.proofs.Filled.{line-bin, ring-bin}
use Rattle.palette.specs.Levels.{Level, hue, saturation, intensity, bin_count, bin_of, histogram, modes_at, lies_in}
use Rattle.palette.specs.Cards.{Branch, members, histogram_in, modes_found, in_child, child}
use Rattle.palette.proofs.LevelBins.{histogram-length, histogram-at, histogram-total}
use Rattle.palette.proofs.Partition.{child-has}

-- ---- a bin of a mode that holds a count
pub level-bin : (e : Closeness) (l : Level) (h : List ℕ) → length h ≡ bin_count l → 0 < total h
    → (m : ℕ) → m < length (modes_at e l h) → (b : ℕ) × (b < length h) × (lies_in e l h m b ≡ true) × (0 < bin_at h b)
level-bin e hue h n filled = ring-bin e h (omega arith) filled
level-bin e saturation h n filled = line-bin e h (omega arith) filled
level-bin e intensity h n filled = line-bin e h (omega arith) filled

-- ---- the pixels of a branch
pub members-count : (ps : List Pixel) (b : Branch) → length (members ps b) ≡ count_if b.has ps
unfolding members
members-count ps b = filter-count b.has ps

module _ (e : Closeness) (ps : List Pixel) where
  pub child-count : (l : Level) (b : Branch) (m : ℕ)
      → length (members ps (child e ps l b m)) ≡ count_if (λ p. lies_in e l (histogram_in ps l b) m (bin_of l p)) (members ps b)
  unfolding in_child members
  child-count l b m =
      members-count ps (child e ps l b m) ∙ ap (λ (has : Pixel → Bool). count_if has ps) (child-has e ps l b m)
      ∙ sym (count-filter b.has (λ p. lies_in e l (histogram_in ps l b) m (bin_of l p)) ps)

  pub child-filled : Each Bytes ps → (l : Level) (b : Branch) → 0 < length (members ps b)
      → (m : ℕ) → m < modes_found e ps l b → 0 < length (members ps (child e ps l b m))
  unfolding modes_found histogram_in members
  child-filled bytes l b some m k =
      let own = members ps b in
      let h = histogram l own in
      let n = histogram-length l own in
      let r = level-bin e l h n (omega (arith, histogram-total l own (each-filter Bytes b.has ps bytes))) m k in
      let j = r.0 in
      let below = r.1 in
      let inside = r.2 in
      let more = count-mono (λ p. eqb (bin_of l p) j) (λ p. lies_in e l h m (bin_of l p)) own
      (λ p q. ap (lies_in e l h m) (eqb-true (bin_of l p) j q) ∙ inside) in
      omega (arith, child-count l b m, more, histogram-at l own j (omega arith), r.3)
