-- By one test: the check computes the logarithms of all 1,024 numbers and compares them with those stored.
use Rattle.std.proofs.Common.{refl}
use Rattle.lists.specs.Lists.{numbers}
use Rattle.logarithm.specs.Log.{lg, floor_log, rounds, round_count, units_per_bit}
use Rattle.logarithm.specs.Sheet.{sheet_size, log_sheet}
use Rattle.logarithm.proofs.sheet.copied_sheet.Goals as goal

pub returns : goal.returns
unfolding log_sheet sheet_size numbers lg floor_log rounds round_count units_per_bit
returns c = refl
