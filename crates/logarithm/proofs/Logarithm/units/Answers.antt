use Rattle.std.proofs.Common.{arith}
use Rattle.logarithm.specs.Log.{round_count, units_per_bit}
use Rattle.logarithm.proofs.Logarithm.units.Goals as goal

pub returns : goal.returns
unfolding units_per_bit round_count
returns c = omega arith
