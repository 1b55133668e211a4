-- A histogram of pixels of bytes: it has the bins of its level, each pixel counts in one of them, and each bin lies in exactly one mode. Assumes nothing.
use Prim.Native.Nat.{ℕ, ◌≤◌, ◌<◌}
use mathlib.Core.Path.{◌≡◌, ap, ◌∙◌}
use mathlib.Core.List.{List}
use native.Mathlib.Omega.{arith}
use lib.Dec.{eqb}
use lib.ListN.{length, length-map}
use Rattle.lists.specs.Lists.{total, numbers, count_if, ExactlyOne}
use Rattle.lists.proofs.Filters.{numbers-length}
use Rattle.lists.proofs.Places.{map_at, numbers-at}
use Rattle.lists.proofs.Each.{Each, each-so}
use Rattle.lists.proofs.Counting.{number-counted, total-exchange, total-ones}
use Rattle.pixel.specs.declared.Pixel.{Pixel}
use Rattle.pixel.specs.Ranges.{Bytes}
use Rattle.pixel.proofs.Ranges.{intensity-le, saturation-le, hue-bin-le}
use Rattle.verdict.specs.Test.{Closeness}
use Rattle.segmentation.specs.Segments.{bin_at}
use Rattle.segmentation.proofs.OneMode.{one-mode}
use Rattle.segmentation.proofs.Finishing.{modes-cut}
use Rattle.segmentation.proofs.RingModes.{ring-one-mode}
use Rattle.segmentation.proofs.Always.{always-finished, ring-always-finished}
use Rattle.palette.specs.Levels.{Level, hue, saturation, intensity, bin_count, bin_of, histogram, modes_at, lies_in, FinishedAt}

-- ---- a pixel's bin
pub bin-below : (l : Level) (p : Pixel) → Bytes p → bin_of l p < bin_count l
bin-below hue p b = omega (arith, hue-bin-le p)
bin-below saturation p b = omega (arith, saturation-le p)
bin-below intensity p b = omega (arith, intensity-le p b)

-- ---- the bins of a histogram
pub histogram-length : (l : Level) (ps : List Pixel) → length (histogram l ps) ≡ bin_count l
unfolding histogram
histogram-length l ps = length-map (numbers 0 (bin_count l)) _ ∙ numbers-length 0 (bin_count l)

pub histogram-at : (l : Level) (ps : List Pixel) (b : ℕ) → b < bin_count l → bin_at (histogram l ps) b ≡ count_if (λ p. eqb (bin_of l p) b) ps
unfolding histogram
histogram-at l ps b h =
    map_at (λ (c : ℕ). count_if (λ p. eqb (bin_of l p) c) ps) (numbers 0 (bin_count l)) b 0 0 (omega (arith, numbers-length 0 (bin_count l)))
    ∙ ap (λ (c : ℕ). count_if (λ p. eqb (bin_of l p) c) ps) (numbers-at 0 (bin_count l) b 0 h ∙ omega arith)

-- 'Each pixel counts once'
pub histogram-total : (l : Level) (ps : List Pixel) → Each Bytes ps → total (histogram l ps) ≡ length ps
unfolding histogram
histogram-total l ps bytes =
    total-exchange (λ b p. eqb (bin_of l p) b) (numbers 0 (bin_count l)) ps
    ∙ total-ones (λ p. count_if (eqb (bin_of l p)) (numbers 0 (bin_count l))) ps
    (each-so Bytes (λ p. count_if (eqb (bin_of l p)) (numbers 0 (bin_count l)) ≡ 1) ps (λ p b. number-counted (bin_count l) (bin_of l p) (bin-below l p b)) bytes)

-- ---- its modes
pub bin-in-one-mode : (e : Closeness) (l : Level) (h : List ℕ) → length h ≡ bin_count l
    → (b : ℕ) → b < bin_count l → ExactlyOne (length (modes_at e l h)) (λ m. lies_in e l h m b)
bin-in-one-mode e hue h n b k = ring-one-mode h (omega arith) e b
bin-in-one-mode e saturation h n b k = one-mode (length h) _ (modes-cut e h (omega arith)) b (omega arith)
bin-in-one-mode e intensity h n b k = one-mode (length h) _ (modes-cut e h (omega arith)) b (omega arith)

pub level-finished : (e : Closeness) (l : Level) (h : List ℕ) → length h ≡ bin_count l → total h ≤ 65536 → FinishedAt e l h
level-finished e hue h n t = ring-always-finished e h (omega arith) (omega arith) t
level-finished e saturation h n t = always-finished e h (omega arith) (omega arith) (omega arith)
level-finished e intensity h n t = always-finished e h (omega arith) (omega arith) (omega arith)
