-- `print` meets its contract: it makes the scratch and lends it. Assumes nothing.
use Rattle.std.proofs.Common.{ℕ}
use lib.ListN.{length-replicate}
use Rattle.swatch.specs.Reading.{most_swatch_pixels}
use Rattle.kistrovu.proofs.printing.print.Goals as goal

pub print_in-requires : goal.print_in-requires
unfolding most_swatch_pixels
print_in-requires c = (length-replicate {A = ℕ} 49152 0, c.requires)
