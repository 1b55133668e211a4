-- No product is too large, and the two tests are those of the definition.
use Rattle.std.proofs.Common.{◌≡◌, ℕ, refl, sym, ◌∙◌, arith, ◌*◌, ◌^◌, ◌<◌, ◌≤◌, Bool, true, false}
use Rattle.std.proofs.Math.Nat.{mul-le-mul_right}
use Rattle.verdict.specs.declared.Mass.{Mass}
use Rattle.verdict.specs.declared.Threshold.{Threshold}
use Rattle.verdict.specs.Exactness.{LogsDefined}
use Rattle.verdict.specs.Near.{gap, fitted_room, is_small, is_near}
use Rattle.verdict.proofs.Sparing.{room_small}
use Rattle.verdict.proofs.near.is_near.Goals as goal

count-within : (n k : ℕ) (m : Mass) → LogsDefined n k m → k * m.den ≤ n * m.den
count-within n k m r = mul-le-mul_right m.den r.partial

fitted-small : (n k : ℕ) (m : Mass) → LogsDefined n k m → fitted_room n m < 2 ^ 62
fitted-small n k m r = room_small m.num (n * m.den) r.within r.below

pub is_small-requires : goal.is_small-requires
is_small-requires c = (fitted-small c.args.n c.args.k c.args.m c.requires.logs_defined, c.requires.usable)

-- what the first test says
first-is : (n k g : ℕ) (m : Mass) (t : Threshold) (a b : Bool) → g ≡ gap k m → a ≡ is_small (g * g) (fitted_room n m) t → a ≡ b → is_small (gap k m * gap k m) (fitted_room n m) t ≡ b
first-is n k g m t a b e f h = rw e at (sym f ∙ h)

pub returns-then-is_small : goal.returns-then-is_small
unfolding is_near
returns-then-is_small c =
    let apart : c.abs_diff-gap.result ≡ gap c.args.k c.args.m = omega arith in
    rw (first-is c.args.n c.args.k c.abs_diff-gap.result c.args.m c.args.t c.is_small.result true apart c.is_small.ensures c.if-is_small.true) refl

pub is_small-requires-2 : goal.is_small-requires-2
is_small-requires-2 c = (omega (arith, c.min-least.ensures, fitted-small c.args.n c.args.k c.args.m c.requires.logs_defined), c.requires.usable)

pub returns : goal.returns
unfolding is_near
returns c =
    let apart : c.abs_diff-gap.result ≡ gap c.args.k c.args.m = omega arith in
    rw (first-is c.args.n c.args.k c.abs_diff-gap.result c.args.m c.args.t c.is_small.result false apart c.is_small.ensures c.if-is_small.false)
    (c.is_small-2.ensures ∙ rw (c.min-least.ensures, apart) refl)
