-- Ground 8. Assumes nothing.
use Rattle.std.proofs.Common.{refl}
use mir.Syntax.{w32}
use mir.ValLaws.{to_z-of_z}
use Rattle.lists.proofs.Signed.{nlt-le-ℤ}
use Rattle.verdict.specs.Test.{least_closeness, most_closeness}
use Rattle.grounds.specs.Grounds.{first_ground}
use Rattle.grounds.proofs.check_closeness.Goals as goal
use Rattle.grounds.proofs.check_closeness.Goals.{then-closeness-lt-LEAST_CLOSENESS-via-then-closeness-lt-LEAST_CLOSENESS, then-closeness-lt-LEAST_CLOSENESS-via-else-closeness-lt-LEAST_CLOSENESS+then-closeness-gt-MOST_CLOSENESS}

pub returns-then-closeness-lt-LEAST_CLOSENESS-clause-number : goal.returns-then-closeness-lt-LEAST_CLOSENESS-clause-number
unfolding first_ground least_closeness most_closeness
returns-then-closeness-lt-LEAST_CLOSENESS-clause-number c =
    let given = to_z-of_z w32 c.args.closeness c.ranges.closeness in
    elim c.then-closeness-lt-LEAST_CLOSENESS.branch [
      | then-closeness-lt-LEAST_CLOSENESS-via-then-closeness-lt-LEAST_CLOSENESS w ↦ rw (rw given at w.if-closeness-lt-LEAST_CLOSENESS.true) refl
      | then-closeness-lt-LEAST_CLOSENESS-via-else-closeness-lt-LEAST_CLOSENESS+then-closeness-gt-MOST_CLOSENESS w ↦
          rw (rw given at w.if-closeness-lt-LEAST_CLOSENESS.false, rw given at w.if-closeness-gt-MOST_CLOSENESS.true) refl
    ]

pub new-requires : goal.new-requires
unfolding least_closeness most_closeness
new-requires c =
    let given = to_z-of_z w32 c.args.closeness c.ranges.closeness in
    rw given (record {
      least = nlt-le-ℤ c.args.closeness least_closeness (rw given at c.if-closeness-lt-LEAST_CLOSENESS.false);
      most = nlt-le-ℤ most_closeness c.args.closeness (rw given at c.if-closeness-gt-MOST_CLOSENESS.false);
    })

pub returns-clause-number : goal.returns-clause-number
unfolding first_ground least_closeness most_closeness
returns-clause-number c =
    let given = to_z-of_z w32 c.args.closeness c.ranges.closeness in
    rw (rw given at c.if-closeness-lt-LEAST_CLOSENESS.false, rw given at c.if-closeness-gt-MOST_CLOSENESS.false) refl
