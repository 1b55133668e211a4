-- The bytes written, and then those of the lines left, are the swatch's. Assumes nothing.
use Rattle.std.proofs.Common.{◌≡◌, ◌+◌, ◌-◌, ◌*◌, take, drop}
use Rattle.swatch.specs.Input.{pixel_bytes}
use Rattle.swatch.proofs.Rows.{joined, rows_at}
use Rattle.swatch.proofs.input.pixel_lines.Given as goal

abbrev pub invariant-loop-i : goal.invariant-loop-i
invariant-loop-i l = joined (take (3 * l.i) l.bytes) (rows_at (l.pixels - l.i) (drop (13 * (l.i + 1)) l.text)) ≡ pixel_bytes l.text
