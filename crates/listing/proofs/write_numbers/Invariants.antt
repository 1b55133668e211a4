-- The loop of `write_numbers` keeps: so many of the bins are listed.
use Rattle.std.proofs.Common.{◌≡◌, ◌++◌, map, take, drop}
use Rattle.lists.specs.Lists.{over}
use Rattle.listing.specs.Numbers.{bin_at_place}
use Rattle.listing.proofs.write_numbers.Given as goal

abbrev pub invariant-loop-i : goal.invariant-loop-i
invariant-loop-i l = l.list ≡ over (map (bin_at_place l.ring.opening l.ring.bins) (take l.i (drop l.from l.places ++ take l.from l.places))) l.initial.list
