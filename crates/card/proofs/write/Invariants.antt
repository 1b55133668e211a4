-- What was written so far is the first of the bytes; a write that takes some leaves fewer. Assumes nothing.
use Rattle.std.proofs.Common.{◌≤◌, ◌-◌, take}
use Rattle.std.specs.Io.KnownBytes.{Appends}
use Rattle.card.proofs.write.Given as goal

abbrev pub invariant-loop-done : goal.invariant-loop-done
invariant-loop-done g l = (l.done ≤ l.len) × Appends (g.W.Write.contents l.initial.output) (g.W.Write.contents l.output) (take l.done l.fn.printed.bytes)

abbrev pub decreases-loop-done : goal.decreases-loop-done
decreases-loop-done g l = l.len - l.done
