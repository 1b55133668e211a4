-- After k steps the first k members have moved.
use Rattle.std.proofs.Common.{◌≡◌, drop}
use Rattle.std.proofs.Math.Seq.{paste}
use Rattle.segmentation.proofs.joins.shift.Given as goal

abbrev pub invariant-loop-k : goal.invariant-loop-k
invariant-loop-k l = l.a ≡ paste l.initial.a l.to (drop l.from l.initial.a) l.k
