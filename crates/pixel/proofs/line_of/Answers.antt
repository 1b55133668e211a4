use Rattle.std.proofs.Common.{◌≡◌, arith}
use Rattle.pixel.specs.Root.{line_of}
use Rattle.pixel.proofs.line_of.Goals as goal

pub returns-in-0 : goal.returns-in-0
unfolding line_of
returns-in-0 c = let e : c.args.stretch ≡ 0 = omega arith in rw e

pub returns-in-1 : goal.returns-in-1
unfolding line_of
returns-in-1 c = let e : c.args.stretch ≡ 1 = omega arith in rw e

pub returns-in-2 : goal.returns-in-2
unfolding line_of
returns-in-2 c = let e : c.args.stretch ≡ 2 = omega arith in rw e

pub returns-in_default : goal.returns-in_default
unfolding line_of
returns-in_default c = let e : c.args.stretch ≡ 3 = omega arith in rw e
