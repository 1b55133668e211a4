-- The grounds in their sequence. Assumes nothing.
use Rattle.std.proofs.Common.{arith, length}
use borrow.Author.Tests.{lt-ltb, le-ltb}
use Rattle.grounds.specs.Grounds.{first_ground, fit_number}
use Rattle.grounds.proofs.Checks.{sum-total}
use Rattle.grounds.proofs.check_fit.Goals as goal
use Rattle.grounds.proofs.check_fit.Goals.{then-h-lt2-via-then-h-lt2, then-h-lt2-via-else-h-lt2+then-h-gt256}

pub returns-then-h-lt2 : goal.returns-then-h-lt2
unfolding fit_number first_ground
returns-then-h-lt2 c =
    let n = length c.args.h.now in
    elim c.then-h-lt2.branch [
      | then-h-lt2-via-then-h-lt2 w ↦ simp (lt-ltb n 2 (omega (arith, w.if-h-lt2.true)))
      | then-h-lt2-via-else-h-lt2+then-h-gt256 w ↦ simp (le-ltb n 2 (omega (arith, w.if-h-lt2.false)), lt-ltb 256 n (omega (arith, w.if-h-gt256.true)))
    ]

pub returns-then-sum-gt65536 : goal.returns-then-sum-gt65536
unfolding fit_number first_ground
returns-then-sum-gt65536 c =
    let n = length c.args.h.now in
    simp (le-ltb n 2 (omega (arith, c.if-h-lt2.false)), le-ltb 256 n (omega (arith, c.if-h-gt256.false)), ← sum-total c.args.h.now, ← c.sum.ensures, lt-ltb 65536 c.sum.result (omega (arith, c.if-sum-gt65536.true)))

pub returns : goal.returns
unfolding fit_number first_ground
returns c =
    let n = length c.args.h.now in
    simp (le-ltb n 2 (omega (arith, c.if-h-lt2.false)), le-ltb 256 n (omega (arith, c.if-h-gt256.false)), ← sum-total c.args.h.now, ← c.sum.ensures, le-ltb 65536 c.sum.result (omega (arith, c.if-sum-gt65536.false)))
