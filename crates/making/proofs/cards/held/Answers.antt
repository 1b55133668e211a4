use Rattle.std.proofs.Common.{refl, arith}
use Rattle.palette.specs.Cards.{most_entries}
use Rattle.making.proofs.cards.held.Goals as goal

pub returns-then-found-gt-MOST_ENTRIES : goal.returns-then-found-gt-MOST_ENTRIES
unfolding most_entries
returns-then-found-gt-MOST_ENTRIES c = omega arith

pub returns : goal.returns
unfolding most_entries
returns c = (omega arith, refl)
