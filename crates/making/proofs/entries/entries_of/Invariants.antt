-- The entries passed stand in the first places.
use Rattle.std.proofs.Math.ListN.{replicate}
use Rattle.palette.specs.Cards.{most_entries, no_entry}
use Rattle.dividing.specs.Keeping.{codes_of, sizes_of}
use Rattle.making.proofs.Made.{Made}
use Rattle.making.proofs.entries.entries_of.Given as goal

abbrev pub invariant-loop-k : goal.invariant-loop-k
invariant-loop-k l = Made l.pixels l.numbers (codes_of l.ranges) (sizes_of l.ranges) (replicate most_entries no_entry) l.k l.at l.entries
