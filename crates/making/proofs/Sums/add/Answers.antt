use Rattle.std.proofs.Common.{arith}
use Rattle.palette.specs.Sound.{most_pixels}
use Rattle.making.proofs.Sums.add.Goals as goal

pub overflow_add-self : goal.overflow_add-self
unfolding most_pixels
overflow_add-self c = omega (arith, c.requires.red)

pub overflow_add-self-2 : goal.overflow_add-self-2
unfolding most_pixels
overflow_add-self-2 c = omega (arith, c.requires.green)

pub overflow_add-self-3 : goal.overflow_add-self-3
unfolding most_pixels
overflow_add-self-3 c = omega (arith, c.requires.blue)
