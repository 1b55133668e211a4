use Rattle.std.proofs.Common.{◌∙◌}
use Rattle.logarithm.proofs.Twos.{odd-some, twos-few, lg-odd, on-sheet-le}
use Rattle.logarithm.proofs.numbers.U64Numbers.in_turn.Goals as goal

pub read-requires : goal.read-requires
read-requires c =
    rw c.of.ensures
    (odd-some c.args.self c.requires.loggable, on-sheet-le c.args.self c.requires.some, twos-few c.args.self c.requires.loggable)

pub returns : goal.returns
returns c = (rw c.of.ensures at c.read.ensures) ∙ lg-odd c.args.self c.requires.loggable
