use Rattle.std.proofs.Common.{ℕ, ◌+◌, ◌*◌, ◌/◌, ◌≤◌, ◌<◌, Fits, w8, refl, arith}
use Rattle.std.proofs.Math.Nat.{div-lt_iff_lt-mul}
use Rattle.palette.specs.Cards.{mean_by}
use Rattle.palette.specs.Sound.{most_pixels}
use Rattle.making.specs.Making.{largest_byte}
use Rattle.making.proofs.entries.mean.Goals as goal

pub overflow_mul-result : goal.overflow_mul-result
unfolding most_pixels
overflow_mul-result c = omega arith

pub overflow_add-result : goal.overflow_add-result
unfolding most_pixels
overflow_add-result c = omega arith

pub overflow_mul-result-2 : goal.overflow_mul-result-2
unfolding most_pixels
overflow_mul-result-2 c = omega arith

-- a quotient of at most this is a byte, whatever is added to round it
fits : (x total count : ℕ) → 0 < count → total ≤ largest_byte * count → x ≤ 2 * total + count → Fits w8 (x / (2 * count))
fits x total count some few most = let below : x / (2 * count) < 256 = (div-lt_iff_lt-mul {k = 2 * count} {x = x} {y = 256} (omega arith)).1 (omega arith) in omega arith

pub overflow_cast-result : goal.overflow_cast-result
overflow_cast-result c = fits _ c.args.total c.args.count (omega arith) (omega arith) (omega arith)

pub returns : goal.returns
unfolding mean_by
returns c = refl
