-- What is left when the machine takes off the least closeness is not negative.
use Rattle.std.proofs.Common.{◌≡◌, ◌≤◌, ap, sym, ◌∙◌, ℤ, pos, ◌-ℤ◌, arith, to_z, of_z, w32, FitsSigned}
use lib.Dec.{leb→le}
use lib.IntN.{negsuc}
use mir.ValLaws.{to_z-of_z}
use Rattle.verdict.specs.Test.{Closeness, least_closeness, most_closeness}
use Rattle.verdict.specs.Settings.{Offered}
use Rattle.verdict.proofs.Settings.{last_setting, Counted, counted-from-least}
use Rattle.verdict.proofs.closeness.Closeness.above_least.Goals as goal

small : (e : Closeness) (f : Counted e) → FitsSigned w32 (pos f.setting)
unfolding last_setting least_closeness most_closeness
small e f = record { sfits = omega (arith, f.within) }

word : (e : Closeness) → Offered e → FitsSigned w32 e
unfolding least_closeness most_closeness
word (pos n) o = let l : n ≤ 20 = leb→le n 20 o.most.le in record { sfits = omega arith }
word (negsuc n) o = let l : n ≤ 9 = leb→le n 9 o.least.le in record { sfits = omega arith }

left_is : (e : Closeness) → Offered e → (f : Counted e) → to_z w32 (of_z w32 e) -ℤ least_closeness ≡ pos f.setting
left_is e o f = ap (λ (z : ℤ). z -ℤ least_closeness) (to_z-of_z w32 e (word e o)) ∙ f.counted

cast_is : (e : Closeness) → Offered e → (f : Counted e) → to_z w32 (of_z w32 (to_z w32 (of_z w32 e) -ℤ least_closeness)) ≡ pos f.setting
cast_is e o f = ap (λ (z : ℤ). to_z w32 (of_z w32 z)) (left_is e o f) ∙ to_z-of_z w32 _ (small e f)

pub overflow_sub-result : goal.overflow_sub-result
unfolding least_closeness
overflow_sub-result c =
    let e = c.self.inside.value in
    let f = counted-from-least e c.self.invariant in
    rw (left_is e c.self.invariant f) (small e f)

pub overflow_cast-result : goal.overflow_cast-result
unfolding least_closeness most_closeness last_setting
overflow_cast-result c =
    let e = c.self.inside.value in
    let f = counted-from-least e c.self.invariant in
    rw (cast_is e c.self.invariant f) (tt, record { fits = omega (arith, f.within) })

pub returns : goal.returns
unfolding least_closeness
returns c =
    let e = c.self.inside.value in
    let f = counted-from-least e c.self.invariant in
    rw (cast_is e c.self.invariant f) (sym f.counted ∙ ap (λ (z : ℤ). z -ℤ least_closeness) c.self.view_is)
