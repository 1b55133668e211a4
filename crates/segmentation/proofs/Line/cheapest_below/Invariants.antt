-- What is found so far is the first of the lowest among the runs passed, where it is below 0. Assumes nothing.
use Rattle.segmentation.proofs.Searching.{Searched, run_from}
use Rattle.segmentation.proofs.Line.cheapest_below.Given as goal

abbrev pub invariant-loop-i : goal.invariant-loop-i
invariant-loop-i l = Searched (run_from l.self.closeness l.self.bins.now l.separators l.peaks l.fn.among.round l.n l.len) l.i l.best l.least
