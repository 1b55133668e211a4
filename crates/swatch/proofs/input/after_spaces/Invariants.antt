-- The columns passed are spaces, so those left have the same columns after their spaces. Assumes nothing.
use Rattle.std.proofs.Common.{◌≡◌, length}
use Rattle.swatch.specs.Input.{after_spaces}
use Rattle.swatch.proofs.input.after_spaces.Given as goal

abbrev pub invariant-loop-rest : goal.invariant-loop-rest
invariant-loop-rest l = after_spaces l.rest ≡ after_spaces l.columns

abbrev pub decreases-loop-rest : goal.decreases-loop-rest
decreases-loop-rest l = length l.rest
