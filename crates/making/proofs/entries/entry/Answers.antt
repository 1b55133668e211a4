use Rattle.std.proofs.Common.{refl}
use Rattle.making.specs.Making.{entry_by}
use Rattle.making.proofs.entries.entry.Goals as goal

pub returns : goal.returns
unfolding entry_by
returns c = rw (c.mean.ensures, c.mean-2.ensures, c.mean-3.ensures) refl
