use Rattle.std.proofs.Common.{◌≡◌, ℕ, suc, ◌+◌, ◌*◌, ◌/◌, ◌^◌, ◌≤◌, ap, ap₂, sym, ◌∙◌, add-one, arith, rules}
use Rattle.std.proofs.Math.IntN.{sub_ℕ}
use Rattle.std.proofs.Math.Nat.{mul-le-mul}
use Rattle.logarithm.specs.Log.{lg, units_per_bit}
use Rattle.pooling.specs.Limits.{most_bins}
use Rattle.verdict.specs.Test.{Closeness, bar, least_closeness}
use Rattle.verdict.proofs.Machine.{handed-back}
use Rattle.verdict.proofs.Terms.{parts-range}
use Rattle.verdict.proofs.Sizes.{lg-small, units_small, setting-small, below-units}
use Rattle.verdict.proofs.Settings.{settings_below, bar-setting, setting-is}
use Rattle.verdict.proofs.weights.bar.Goals as goal

pub units-requires : goal.units-requires
units-requires c =
    let s = setting-is c.args.closeness c.above_least-above.result (search rules) c.above_least-above.ensures in
    omega (arith, setting-small s.0)

-- the logarithm of the number of parts, as the definition writes that number
log_is : (bins l : ℕ) → l ≡ lg (bins * (bins + 1) / 2) → l ≡ lg (bins * suc bins / 2)
log_is bins l e = e ∙ ap (λ (n : ℕ). lg (bins * n / 2)) (add-one bins)

log_small : (bins l : ℕ) → l ≡ lg (bins * (bins + 1) / 2) → 1 ≤ bins → bins ≤ most_bins → l ≤ 2 ^ 45
log_small bins l e some most = omega (arith, log_is bins l e, lg-small (bins * suc bins / 2) (parts-range bins some most))

-- the units of whatever number the code takes them of: they fit, and they are those of any number equal to it
units-fit : (s u : ℕ) → u ≡ s * units_per_bit → s ≤ 2 ^ 10 → u ≤ 2 ^ 50
units-fit s u e h = omega (arith, e, mul-le-mul h units_small)

units-of : (s t u : ℕ) → u ≡ s * units_per_bit → s ≡ t → u ≡ t * units_per_bit
units-of s t u e same = e ∙ ap (λ (n : ℕ). n * units_per_bit) same

pub overflow_add-lg : goal.overflow_add-lg
overflow_add-lg c =
    let s = setting-is c.args.closeness c.above_least-above.result (search rules) c.above_least-above.ensures in
    let fits = units-fit _ c.units.result c.units.ensures (omega (arith, setting-small s.0)) in
    omega (arith, log_small c.args.bins c.lg.result c.lg.ensures c.requires.0 c.requires.1, fits)

pub difference-requires : goal.difference-requires
unfolding settings_below least_closeness
difference-requires c =
    let s = setting-is c.args.closeness c.above_least-above.result (search rules) c.above_least-above.ensures in
    let fits = units-fit _ c.units.result c.units.ensures (omega (arith, setting-small s.0)) in
    (omega (arith, log_small c.args.bins c.lg.result c.lg.ensures c.requires.0 c.requires.1, fits), omega (arith, c.units-2.ensures, below-units))

pub returns : goal.returns
unfolding settings_below least_closeness
returns c =
    let s = setting-is c.args.closeness c.above_least-above.result (search rules) c.above_least-above.ensures in
    let above = units-of _ c.above_least-above.result c.units.result c.units.ensures (omega arith) in
    handed-back c.difference.type_inv ∙ c.difference.ensures ∙ ap₂ sub_ℕ (ap₂ (λ (a b : ℕ). a + b) (log_is c.args.bins c.lg.result c.lg.ensures) above) c.units-2.ensures
    ∙ sym (bar-setting c.above_least-above.result c.args.bins) ∙ ap (λ (e : Closeness). bar e c.args.bins) s.1
