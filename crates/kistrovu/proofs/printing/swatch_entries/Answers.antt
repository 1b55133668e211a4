-- `swatch_entries` meets its contract: it makes the scratch and lends it. Assumes nothing.
use Rattle.std.proofs.Common.{arith}
use Rattle.palette.specs.Sound.{most_pixels}
use Rattle.swatch.specs.Reading.{most_swatch_pixels}
use Rattle.kistrovu.proofs.printing.swatch_entries.Goals as goal

pub make_entries-requires : goal.make_entries-requires
unfolding most_pixels most_swatch_pixels
make_entries-requires c =
    let p = c.requires in
    record { pixels_len = (p.0, omega (arith, p.1)); pixels_in_bounds = (omega (arith, p.1), omega (arith, p.1), omega (arith, p.1)) }
