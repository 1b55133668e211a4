use Rattle.std.proofs.Common.{◌≡◌, arith}
use Rattle.pixel.specs.Colour.{tangents}
use Rattle.pixel.proofs.inner_of.Goals as goal

pub returns-in-0 : goal.returns-in-0
unfolding tangents
returns-in-0 c = let e : c.args.group ≡ 0 = omega arith in (rw e, rw e)

pub returns-in-1 : goal.returns-in-1
unfolding tangents
returns-in-1 c = let e : c.args.group ≡ 1 = omega arith in (rw e, rw e)

pub returns-in-2 : goal.returns-in-2
unfolding tangents
returns-in-2 c = let e : c.args.group ≡ 2 = omega arith in (rw e, rw e)

pub returns-in-3 : goal.returns-in-3
unfolding tangents
returns-in-3 c = let e : c.args.group ≡ 3 = omega arith in (rw e, rw e)

pub returns-in-4 : goal.returns-in-4
unfolding tangents
returns-in-4 c = let e : c.args.group ≡ 4 = omega arith in (rw e, rw e)
