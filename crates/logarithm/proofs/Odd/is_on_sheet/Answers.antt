use Rattle.std.proofs.Common.{rules}
use Rattle.logarithm.specs.Sheet.{sheet_size}
use Rattle.logarithm.proofs.Odd.is_on_sheet.Goals as goal

pub returns : goal.returns
unfolding sheet_size
returns c = search rules
