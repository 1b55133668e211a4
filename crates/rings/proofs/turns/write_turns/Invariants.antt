-- After i steps the first i bins of the two turns are written.
use Rattle.std.proofs.Common.{◌≡◌, take}
use Rattle.lists.specs.Lists.{over}
use Rattle.segmentation.specs.Ring.{two_turns}
use Rattle.rings.proofs.turns.write_turns.Given as goal

abbrev pub invariant-loop-i : goal.invariant-loop-i
invariant-loop-i l = l.round ≡ over (take l.i (two_turns l.h)) l.initial.round
