-- The pixels passed are added up.
use Rattle.palette.specs.Cards.{pixels_of}
use Rattle.making.proofs.Gathered.{Gathered}
use Rattle.making.proofs.entries.gather.Given as goal

abbrev pub invariant-loop-number : goal.invariant-loop-number
invariant-loop-number l = Gathered (pixels_of l.pixels) l.numbers l.number-index l.sums.red l.sums.green l.sums.blue
