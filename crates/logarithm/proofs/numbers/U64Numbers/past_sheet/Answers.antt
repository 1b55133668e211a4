use Rattle.logarithm.specs.Sheet.{on_sheet}
use Rattle.logarithm.proofs.numbers.U64Numbers.past_sheet.Goals as goal

pub returns : goal.returns
unfolding on_sheet
returns c = rw (c.is_on_sheet.ensures, c.of.ensures)
