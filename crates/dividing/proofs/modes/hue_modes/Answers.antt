use Rattle.std.proofs.Common.{◌≡◌, ◌≤◌, ℕ, List, length, sym, arith}
use Rattle.verdict.specs.Test.{Closeness}
use Rattle.segmentation.specs.Ring.{ring_modes}
use Rattle.segmentation.proofs.RingPlaces.{opening-in}
use Rattle.palette.specs.Sound.{most_pixels}
use Rattle.palette.specs.Levels.{hue, bin_count}
use Rattle.palette.proofs.FewModes.{modes-few}
use Rattle.dividing.proofs.Numbered.{Lent, ring-lent, ring-numbered}
use Rattle.dividing.proofs.modes.hue_modes.Goals as goal

few : (e : Closeness) (h places : List ℕ) (n : ℕ) → length h ≡ bin_count hue → Lent (ring_modes e h) places n → n ≤ 31
few e h places n bins l = omega (arith, l.count, modes-few e hue h bins)

pub ring_modes-found-requires-clause-in_bounds : goal.ring_modes-found-requires-clause-in_bounds
unfolding most_pixels
ring_modes-found-requires-clause-in_bounds c =
    let bins : length c.args.h.now ≡ bin_count hue = c.requires.0 in
    (omega arith, omega arith, omega (arith, c.requires.1))

pub slice_bounds-places-end : goal.slice_bounds-places-end
slice_bounds-places-end c =
    let bins : length c.args.h.now ≡ bin_count hue = c.requires.0 in
    let l = ring-lent c.args.closeness c.args.h.now (omega (arith, bins)) _ _ _ c.ring_modes-found.ensures.1 c.ring_modes-found.ensures.2 in
    omega (arith, few _ _ _ _ bins l, c.ring_modes-found.auto.places)

pub slice_bounds-number_bins-end : goal.slice_bounds-number_bins-end
slice_bounds-number_bins-end c =
    let bins : length c.args.h.now ≡ bin_count hue = c.requires.0 in
    let l = ring-lent c.args.closeness c.args.h.now (omega (arith, bins)) _ _ _ c.ring_modes-found.ensures.1 c.ring_modes-found.ensures.2 in
    sym l.long

pub number_bins-requires : goal.number_bins-requires
number_bins-requires c =
    let bins : length c.args.h.now ≡ bin_count hue = c.requires.0 in
    let room : length c.args.modes.now ≡ bin_count hue = c.requires.2 in
    let l = ring-lent c.args.closeness c.args.h.now (omega (arith, bins)) _ _ _ c.ring_modes-found.ensures.1 c.ring_modes-found.ensures.2 in
    (l.rise, omega (arith, l.long, few _ _ _ _ bins l), omega (arith, c.ring_modes-found.ensures.0, opening-in c.args.h.now (omega (arith, bins)), bins, room), omega (arith, room))

pub returns : goal.returns
returns c =
    let h = c.args.h.now in
    let bins : length h ≡ bin_count hue = c.requires.0 in
    let room : length c.args.modes.now ≡ bin_count hue = c.requires.2 in
    let l = ring-lent c.args.closeness h (omega (arith, bins)) _ _ _ c.ring_modes-found.ensures.1 c.ring_modes-found.ensures.2 in
    let same : length c.number_bins.new.modes ≡ length h = omega (arith, c.number_bins.auto.modes, bins, room) in
    rw l.count (ring-numbered c.args.closeness h (omega (arith, bins)) _ c.ring_modes-found.ensures.0 c.number_bins.new.modes same (rw l.starts at c.number_bins.ensures))
