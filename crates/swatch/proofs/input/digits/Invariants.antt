-- The digits left, after the number so far, make the number asked for. Assumes nothing.
use Rattle.std.proofs.Common.{◌≡◌, ◌<◌, ◌^◌, drop}
use Rattle.swatch.specs.Input.{decimal}
use Rattle.swatch.proofs.input.digits.Given as goal

abbrev pub invariant-loop-c : goal.invariant-loop-c
invariant-loop-c l = (l.value < 10 ^ l.c-index) × (decimal l.value (drop l.c-index l.columns) ≡ decimal 0 l.columns)
