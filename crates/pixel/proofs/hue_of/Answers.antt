use Rattle.std.proofs.Common.{arith}
use Rattle.pixel.specs.Colour.{hue_at}
use Rattle.pixel.proofs.Hue.{tangents-passed-le}
use Rattle.pixel.proofs.hue_of.Goals as goal

pub overflow_add-result : goal.overflow_add-result
overflow_add-result c = omega (arith, c.tangents_passed.ensures, tangents-passed-le c.args.t.a c.args.t.b)

pub overflow_cast-result : goal.overflow_cast-result
overflow_cast-result c = omega (arith, c.tangents_passed.ensures, tangents-passed-le c.args.t.a c.args.t.b)

pub returns : goal.returns
unfolding hue_at
returns c = rw c.tangents_passed.ensures
