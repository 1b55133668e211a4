-- Two turns of a ring, as copies write them. Assumes nothing.
use Rattle.std.proofs.Common.{ℕ, ◌≡◌, ◌+◌, List, ◌++◌, length, drop, refl, append_assoc, length-append}
use Rattle.std.proofs.Math.Nat.{sub-zero}
use Rattle.std.proofs.Math.Seq.{take-append_seam, drop-append-add, drop-drop}
use Rattle.std.specs.List.{copy_within}
use Rattle.lists.specs.Lists.{over}

-- the first of two turns stands in the first places of a buffer, and is copied behind itself
pub turn-twice : (turn buffer : List ℕ) (k : ℕ) → k ≡ length turn → copy_within (turn ++ drop k buffer) 0 k k ≡ over (turn ++ turn) buffer
unfolding over
turn-twice turn buffer k e =
    rw (e, sub-zero (length turn), take-append_seam turn (drop (length turn) buffer), drop-append-add turn (drop (length turn) buffer) (length turn), drop-drop (length turn) (length turn) buffer, length-append turn turn, append_assoc turn turn (drop (length turn + length turn) buffer)) refl
