use Rattle.std.proofs.Common.{sym, ◌∙◌}
use Rattle.pixel.specs.Colour.{hue_point, hue_of, hue_bin}
use Rattle.pixel.proofs.Hue.{turned-quarter-le}
use Rattle.pixel.proofs.hue_bin.Goals as goal

pub hue_of-requires : goal.hue_of-requires
hue_of-requires c = rw c.turned_back.ensures (turned-quarter-le (hue_point c.args.p))

pub returns-then-is_grey : goal.returns-then-is_grey
unfolding hue_bin
returns-then-is_grey c = rw (sym c.is_grey.ensures ∙ c.if-is_grey.true)

pub returns-else-is_grey : goal.returns-else-is_grey
unfolding hue_bin hue_of
returns-else-is_grey c = rw (sym c.is_grey.ensures ∙ c.if-is_grey.false, sym c.turned_back.ensures) c.hue_of.ensures
