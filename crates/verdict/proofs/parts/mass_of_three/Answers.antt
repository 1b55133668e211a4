-- The products are small.
use Rattle.std.proofs.Common.{arith, ◌*◌, ◌≤◌}
use Rattle.std.proofs.Math.Nat.{mul-le-mul}
use Rattle.pooling.specs.Limits.{most_bins, most_counts}
use Rattle.verdict.proofs.parts.mass_of_three.Goals as goal

pub overflow_add-result-2 : goal.overflow_add-result-2
overflow_add-result-2 c =
    let len : c.from-len.result ≤ most_bins = omega arith in
    let last_len : c.from-last_len.result ≤ most_bins = omega arith in
    let sum : c.from.result ≤ most_counts = omega arith in
    let last_sum : c.from-2.result ≤ most_counts = omega arith in
    let first : c.args.tail * c.from.result * c.from-last_len.result ≤ most_bins * most_counts * most_bins = mul-le-mul (mul-le-mul c.requires.first_in_bounds.0 sum) last_len in
    let middle : c.args.between * (c.from-len.result * c.from-last_len.result) ≤ most_counts * (most_bins * most_bins) = mul-le-mul c.requires.first_in_bounds.3 (mul-le-mul len last_len) in
    let last : c.args.head * c.from-2.result * c.from-len.result ≤ most_bins * most_counts * most_bins = mul-le-mul (mul-le-mul c.requires.last_in_bounds.0 last_sum) len in
    omega (arith, first, middle, last)
