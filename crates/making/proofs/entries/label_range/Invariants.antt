-- The pixels passed have their label.
use Rattle.std.proofs.Common.{◌≡◌, take}
use Rattle.making.specs.Making.{labelled}
use Rattle.making.proofs.entries.label_range.Given as goal

abbrev pub invariant-loop-at : goal.invariant-loop-at
invariant-loop-at l = l.labels ≡ labelled l.label (take l.at-index l.numbers) l.fn.labels
