-- The place before the next one lies in mode m; the bins of the places passed bear their modes.
use Rattle.std.proofs.Common.{◌≡◌, ℕ, ◌+◌, ◌%◌, ◌<◌, get_or}
use Rattle.dividing.specs.Numbering.{ModeBefore, ModeAt}
use Rattle.dividing.proofs.modes.number_bins.Given as goal

abbrev pub invariant-loop-i : goal.invariant-loop-i
invariant-loop-i l = record {
  before : ModeBefore l.separators l.m l.i;
  borne : (k : ℕ) → k < l.i → (x : ℕ) × ModeAt l.separators x k × (get_or l.modes ((l.opening + k) % l.bins) 0 ≡ x);
}
