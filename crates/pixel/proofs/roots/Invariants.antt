-- The runs of the bins passed have their roots. Assumes nothing.
use Rattle.std.proofs.Common.{◌*◌}
use Rattle.pixel.specs.Root.{Rooted}
use Rattle.pixel.proofs.roots.Given as goal

abbrev pub invariant-loop-j : goal.invariant-loop-j
invariant-loop-j l = Rooted l.roots (l.j * l.j)
