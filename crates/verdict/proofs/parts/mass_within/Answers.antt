-- The bins are counted as the definition does.
use Rattle.std.proofs.Common.{refl, add-one}
use Rattle.verdict.specs.Test.{mass_within}
use Rattle.verdict.proofs.parts.mass_within.Goals as goal

pub returns : goal.returns
unfolding mass_within
returns c = rw (c.from.ensures, c.from-2.ensures, add-one) refl
