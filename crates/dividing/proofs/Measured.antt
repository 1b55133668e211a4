-- A range measured in one pass: the bins of the pixels passed are kept and counted. Assumes nothing.
use Prim.Native.Nat.{ℕ, ◌+◌, ◌≤◌, ◌<◌}
use mathlib.Core.Path.{◌≡◌, refl, sym, ap, ◌∙◌}
use mathlib.Core.Bool.{false}
use mathlib.Core.List.{List}
use native.Mathlib.Omega.{arith}
use lib.ListN.{length, take, get_or, set, replicate, length-set}
use lib.Seq.{take_all, length-take-le}
use Rattle.lists.specs.Lists.{over}
use Rattle.lists.proofs.Buffers.{over_none, over-next, over_done}
use Rattle.pixel.specs.declared.Pixel.{Pixel}
use Rattle.pixel.specs.declared.Turned.{Turned}
use Rattle.pixel.specs.Colour.{is_grey, hue_point, turned_of, hue_at, hue_of, hue_bin}
use Rattle.palette.specs.Levels.{Level, bin_count, bin_of}
use Rattle.palette.specs.Cards.{pixels_of}
use Rattle.palette.specs.Sound.{pixel_at}
use Rattle.palette.proofs.Triples.{pixels-bytes}
use Rattle.palette.proofs.LevelBins.{bin-below}
use Rattle.dividing.specs.Sorted.{tally}
use Rattle.dividing.specs.Splitting.{bins_of, BinsCounted}
use Rattle.dividing.proofs.Tallies.{tally-le, tally-none, tally-more}
use Rattle.dividing.proofs.Ranges.{bins-length, bins-at}

-- a colour's hue needs no test for grey
pub coloured-hue : (p q : Pixel) (t : Turned) (bin : ℕ) → p ≡ q → is_grey q ≡ false → t ≡ turned_of (hue_point p) → bin ≡ hue_at t → bin ≡ hue_bin p
unfolding hue_bin hue_of
coloured-hue p q t bin e g turned b = rw (ap is_grey e ∙ g, sym turned) b

-- after i pixels of the range
pub record Passed (bytes : List ℕ) (l : Level) (xs lent : List ℕ) (i : ℕ) (keys h : List ℕ) : Type 0 where
  pub within : i ≤ length xs
  pub long : length keys ≡ length lent
  pub kept : keys ≡ over (take i (bins_of (pixels_of bytes) l xs)) lent
  pub counted : h ≡ tally (bin_count l) (take i (bins_of (pixels_of bytes) l xs))

module _ (bytes : List ℕ) (byte : (j : ℕ) → get_or bytes j 0 < 256) (l : Level) (xs lent : List ℕ) (fits : length xs ≡ length lent) where
  ps : List Pixel
  ps = pixels_of bytes

  pub passed_none : Passed bytes l xs lent 0 lent (replicate (bin_count l) 0)
  passed_none = record { within = omega arith; long = refl; kept = sym (over_none lent); counted = tally-none (bin_count l) }

  module _ (i : ℕ) (keys h : List ℕ) (s : Passed bytes l xs lent i keys h) (more : i < length xs) (p : Pixel) (q : p ≡ pixel_at (pixels_of bytes) (get_or xs i 0))
      (bin : ℕ) (b : bin ≡ bin_of l p) where
    bin_at : bin ≡ get_or (bins_of ps l xs) i 0
    unfolding ps
    bin_at = b ∙ ap (bin_of l) q ∙ sym (bins-at ps l xs i more)

    pub passed-below : bin < bin_count l
    unfolding ps
    passed-below = omega (arith, b ∙ ap (bin_of l) q, bin-below l (pixel_at ps (get_or xs i 0)) (pixels-bytes bytes byte (get_or xs i 0)))

    -- a count stays below the number of pixels
    pub passed-few : get_or h bin 0 ≤ length xs
    unfolding ps
    passed-few =
        let bins = bins_of ps l xs in
        omega (
          arith,
          ap (λ (z : List ℕ). get_or z bin 0) s.counted,
          tally-le (bin_count l) (take i bins) bin passed-below,
          length-take-le i bins (omega (arith, bins-length ps l xs)),
        )

    pub passed-more : Passed bytes l xs lent (i + 1) (set keys i bin) (set h bin (get_or h bin 0 + 1))
    unfolding ps
    passed-more =
        let bins = bins_of ps l xs in
        let long = bins-length ps l xs in
        let here : get_or bins i 0 < bin_count l = omega (arith, bin_at, passed-below) in
        let one = tally-more (bin_count l) bins i (omega arith) here in
        record {
          within = omega arith;
          long = simp length-set s.long;
          kept = ap (λ (ks : List ℕ). set ks i bin) s.kept ∙ over-next bins lent 0 i bin (omega arith) (omega arith) bin_at;
          counted = rw (s.counted, bin_at) one;
        }

  pub passed-all : (i : ℕ) (keys h : List ℕ) → Passed bytes l xs lent i keys h → length xs ≤ i → BinsCounted (pixels_of bytes) l xs keys h
  unfolding ps
  passed-all i keys h s done =
      let bins = bins_of ps l xs in
      let long = bins-length ps l xs in
      let kept : keys ≡ bins = s.kept ∙ over_done bins lent i (omega arith) (omega arith) in
      record { kept = kept; counted = s.counted ∙ ap (tally (bin_count l)) (take_all i bins (omega arith) ∙ sym kept) }
