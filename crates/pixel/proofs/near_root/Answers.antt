use Rattle.std.proofs.Common.{◌≤◌, arith}
use Rattle.std.proofs.Math.Nat.{mul-le-mul}
use Rattle.pixel.proofs.NearRoot.{near_root, near-root-within, line-le}
use Rattle.pixel.proofs.near_root.Goals as goal

pub overflow_mul-result : goal.overflow_mul-result
overflow_mul-result c = omega (arith, mul-le-mul {n₁ = c.line_of-line.result.slope} {m₁ = c.args.x} {n₂ = 146} {m₂ = 1734} (rw c.line_of-line.ensures (line-le _).1) (omega arith))

pub overflow_add-result : goal.overflow_add-result
overflow_add-result c =
    let s : c.line_of-line.result.start ≤ 16600 = rw c.line_of-line.ensures (line-le _).0 in
    omega (arith, mul-le-mul {n₁ = c.line_of-line.result.slope} {m₁ = c.args.x} {n₂ = 146} {m₂ = 1734} (rw c.line_of-line.ensures (line-le _).1) (omega arith))

pub returns : goal.returns
unfolding near_root
returns c =
    rw (c.line_of-line.ensures, c.at_least-3.ensures.0, c.at_least-2.ensures.0, c.at_least.ensures.0)
    (near-root-within c.args.x (omega arith))
