-- The pixels of the entries passed have their labels.
use Rattle.dividing.specs.Keeping.{sizes_of}
use Rattle.making.proofs.Labelled.{LabelsGiven}
use Rattle.making.proofs.entries.write_labels.Given as goal

abbrev pub invariant-loop-k : goal.invariant-loop-k
invariant-loop-k l = LabelsGiven l.numbers (sizes_of l.ranges) l.fn.labels l.k l.at l.labels
