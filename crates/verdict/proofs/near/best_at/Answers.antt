-- The threshold spares each near part its logarithms.
use Rattle.std.proofs.Common.{◌≡◌, refl, ◌+◌, ◌*◌, ◌-◌, ◌/◌, ◌%◌, ◌^◌, ◌<◌, ◌≤◌, pos, ◌≤ℤ◌, arith, w64}
use Rattle.std.proofs.Math.IntN.{nat_abs}
use Rattle.std.proofs.Math.Nat.{mul-le-mul}
use mir.ValLaws.{to_z-of_z}
use Rattle.logarithm.specs.Log.{units_per_bit}
use Rattle.pooling.specs.Limits.{most_counts}
use Rattle.verdict.specs.declared.Threshold.{Threshold}
use Rattle.verdict.proofs.Machine.{natural-above}
use Rattle.verdict.proofs.Sizes.{units_small}
use Rattle.verdict.proofs.Sparing.{spared, factor-least, factor-some}
use Rattle.verdict.proofs.near.best_at.Goals as goal

pub overflow_add-over : goal.overflow_add-over
overflow_add-over c =
    let k : 3 * c.args.n ≤ 3 * most_counts = omega arith in
    omega (arith, c.units-over.ensures, mul-le-mul k units_small)

pub returns : goal.returns
returns c =
    let n = c.args.n in
    let z = to_z-of_z w64 c.args.weight c.ranges.weight in
    let exact = c.saturating_sub-exact.result in
    let t : Threshold = record { factor = c.min-factor.result; shift = c.shift_for-shift.result } in
    let above : exact ≡ nat_abs c.args.weight - 2 * n = rw z at c.saturating_sub-exact.ensures in
    let reached : (0 < exact → pos (exact + 2 * n) ≤ℤ c.args.weight) = λ p. rw above (natural-above c.args.weight (2 * n) c.requires.1 (omega arith)) in
    let x = exact * 2 ^ (t.shift + 5) % 2 ^ 64 in
    let low : t.factor ≤ x / (c.units-over.result + 1) = omega (arith, c.min-factor.ensures) in
    let most : t.factor ≤ x / (3 * n * units_per_bit + 1) = rw c.units-over.ensures at low in (
      z,
      rw z (record {
        least = c.requires.1;
        usable = record { factor = omega (arith, c.min-factor.ensures); shift = omega (arith, c.shift_for-shift.ensures) };
        spares = spared n exact t c.args.weight c.requires.1 reached (factor-least n t.factor t.shift exact x most refl)
            (factor-some t.factor (3 * n * units_per_bit + 1) exact (t.shift + 5) most);
      }),
    )
