-- The places passed have their roots. Assumes nothing.
use Rattle.pixel.specs.Root.{Rooted}
use Rattle.pixel.proofs.write_root.Given as goal

abbrev pub invariant-loop-x : goal.invariant-loop-x
invariant-loop-x l = Rooted l.roots l.x
