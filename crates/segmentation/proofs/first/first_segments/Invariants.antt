-- The peaks of the segments passed are held. Assumes nothing.
use Rattle.segmentation.specs.Walk.{PeaksHeld}
use Rattle.segmentation.proofs.first.first_segments.Given as goal

abbrev pub invariant-loop-m : goal.invariant-loop-m
invariant-loop-m l = PeaksHeld l.h l.separators l.peaks l.m
