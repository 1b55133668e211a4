-- The laws of specs/Ranges, and each range on its own. Assumes nothing.
use Prim.Native.Nat.{ℕ, ◌+◌, ◌*◌, ◌≤◌, ◌<◌}
use lib.Dec.{leb}
use native.Mathlib.Omega.{arith}
use borrow.Author.Tests.{leb-true, leb-false, le-leb}
use Rattle.lists.proofs.Cases.{by_cond, by_order}
use Rattle.lists.proofs.LargestThat.{largest-that-le, largest-that-passes, largest-that-above}
use Rattle.pixel.specs.declared.Pixel.{Pixel}
use Rattle.pixel.specs.Colour.{Point, intensity_bin, chroma_squared, saturation_of, saturation_bin, is_grey, hue_point, hue_of, hue_bin, measures_of}
use Rattle.pixel.specs.Ranges.{Bytes, AlwaysInRange, ChromaWhole, AlwaysLargest, TurnedToFirst, ColouredTurns}
use Rattle.pixel.proofs.Chroma.{mixed-le, chroma-le, chroma-even}
use Rattle.pixel.proofs.Saturation.{begins-below}
use Rattle.pixel.proofs.Quarters.{Turns, turned-of, hue-turns-0, hue-turns-1, hue-turns-2, hue-turns-3}
use Rattle.pixel.proofs.Hue.{hue-le}

-- ---- ranges
pub intensity-le : (p : Pixel) → Bytes p → intensity_bin p ≤ 51
unfolding intensity_bin
intensity-le p h = omega arith

pub saturation-le : (p : Pixel) → saturation_bin p ≤ 41
unfolding saturation_bin saturation_of
saturation-le p = largest-that-le (λ (j : ℕ). leb (75 * (j * j)) (2 * chroma_squared p)) 41

pub hue-bin-le : (p : Pixel) → hue_bin p ≤ 59
unfolding hue_bin
hue-bin-le p = by_cond (λ (n : ℕ). n ≤ 59) (is_grey p) 0 (hue_of (hue_point p)) (λ e. omega arith) (λ e. hue-le (hue_point p))

pub measures-in-range : AlwaysInRange
unfolding measures_of
measures-in-range p h =
    record { intensity = omega (arith, intensity-le p h); saturation = omega (arith, saturation-le p); hue = omega (arith, hue-bin-le p) }

-- ---- Q and the saturation bin
pub chroma-whole : ChromaWhole
unfolding chroma_squared
chroma-whole p = omega (arith, mixed-le p.red p.green p.blue)

pub saturation-largest : AlwaysLargest
unfolding saturation_bin saturation_of
saturation-largest p h =
    let q = chroma_squared p in
    let most : q ≤ 65025 = chroma-le p (omega arith) (omega arith) (omega arith) in
    record {
      passes = leb-true _ _ (largest-that-passes (λ (j : ℕ). leb (75 * (j * j)) (2 * q)) 41 0 (omega arith) (le-leb 0 (2 * q) (omega arith)));
      largest = λ j l. largest-that-above (λ (j : ℕ). leb (75 * (j * j)) (2 * q)) 41 j
          (let k : j < 42 = begins-below j 42 (2 * q) l (omega arith) in omega arith) (le-leb (75 * (j * j)) (2 * q) l);
    }

-- ---- the hue point
turned-first : (c : Point) (q a b : ℕ) → Turns c q a b → 0 < a → TurnedToFirst c
turned-first c q a b t h =
    let e = turned-of c q a b t in
    record { a_positive = rw e h; point = rw (e, t.lies) t.back }

pub coloured-turns : ColouredTurns
unfolding is_grey
coloured-turns p c =
    by_order (p.green + p.blue) (2 * p.red)
    (λ v. by_order p.green p.blue
    (λ u. turned-first (hue_point p) 2 _ _ (hue-turns-2 p u (omega arith)) (omega arith))
    (λ u. turned-first (hue_point p) 3 _ _ (hue-turns-3 p u (omega arith) (λ l. omega arith)) (omega arith)))
    (λ v. by_order p.blue p.green
    (λ u. turned-first (hue_point p) 0 _ _ (hue-turns-0 p u v) (omega arith))
    (λ u. by_order (2 * p.red) (p.green + p.blue)
    (λ w. turned-first (hue_point p) 1 _ _ (hue-turns-1 p u w) (omega arith))
    (λ w. by_order p.green p.blue
    (λ s. turned-first (hue_point p) 2 _ _ (hue-turns-2 p s w) (omega arith))
    (λ s. let q = leb-false (chroma_squared p) 136 c in
    let none : ⊥ = omega (arith, chroma-even p (omega arith) (omega arith)) in
    absurd none))))
