-- Six columns, one after the other. Assumes nothing.
use Rattle.std.proofs.Common.{refl}
use Rattle.swatch.specs.Output.{printed_in}
use Rattle.swatch.proofs.printing.field.Goals as goal

pub returns : goal.returns
unfolding printed_in
returns c = rw (c.column.ensures, c.column-2.ensures, c.column-3.ensures, c.column-4.ensures, c.column-5.ensures, c.digit.ensures) refl
