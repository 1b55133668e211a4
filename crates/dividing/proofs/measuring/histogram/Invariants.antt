-- The bins of the pixels passed are kept and counted.
use Rattle.dividing.proofs.Measured.{Passed}
use Rattle.dividing.proofs.measuring.histogram.Given as goal

abbrev pub invariant-loop-i : goal.invariant-loop-i
invariant-loop-i g l = Passed l.pixels g.M.Measure.level l.order l.fn.keys l.i l.keys l.h
