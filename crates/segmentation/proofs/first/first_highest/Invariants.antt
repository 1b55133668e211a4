-- The best so far is the first highest of the bins before i. Assumes nothing.
use Rattle.std.proofs.Common.{◌≡◌, ◌-◌, ◌<◌}
use Rattle.segmentation.specs.Segments.{first_highest}
use Rattle.segmentation.proofs.first.first_highest.Given as goal

abbrev pub invariant-loop-i : goal.invariant-loop-i
invariant-loop-i l = record { below : l.best < l.i; highest : l.best ≡ first_highest l.h l.start (l.i - 1 - l.start) }
