-- The test for a step against the direction agrees with the statement, and a stretch without one is never rejected. Assumes nothing.
use Prim.Native.Nat.{ℕ, zero, suc, ◌+◌, ◌-◌, ◌≤◌, ◌<◌}
use mathlib.Core.Path.{◌≡◌, refl, sym, ap, ◌∙◌}
use mathlib.Core.Bool.{Bool, true, false, ◌&&◌, ◌||◌, false≢true}
use mathlib.Core.List.{List, [], ◌∷◌}
use lib.ListN.{length, get_or}
use lib.IntN.{pos}
use lib.Signed.{le_z}
use native.Mathlib.Omega.{arith}
use borrow.Author.Tests.{le-ltb, ltb-false}
use Rattle.lists.proofs.Cases.{last_or}
use Rattle.pooling.specs.Blocks.{Direction, increasing, decreasing}
use Rattle.verdict.specs.Test.{Closeness, against, step_against, cost, rejected}
use Rattle.verdict.specs.Exactness.{InOrder, Monotone}

in-order-not : (w : Direction) (a b : ℕ) → InOrder w a b → against w a b ≡ false
in-order-not increasing a b h = le-ltb b a h
in-order-not decreasing a b h = le-ltb a b h

not-in-order : (w : Direction) (a b : ℕ) → against w a b ≡ false → InOrder w a b
not-in-order increasing a b e = ltb-false b a e
not-in-order decreasing a b e = ltb-false a b e

pub monotone-none : (w : Direction) (h : List ℕ) → Monotone w h → step_against w h ≡ false
unfolding step_against
monotone-none w [] m = refl
monotone-none w (a ∷ []) m = refl
monotone-none w (a ∷ b ∷ h) m =
    ap (λ (t : Bool). t || step_against w (b ∷ h)) (in-order-not w a b (m 0 (omega arith))) ∙ monotone-none w (b ∷ h) (λ i l. m (suc i) (omega arith))

either-false : (a b : Bool) → (a || b) ≡ false → (a ≡ false) × (b ≡ false)
either-false false b e = (refl, e)
either-false true b e = absurd (false≢true (sym e))

pub none-monotone : (w : Direction) (h : List ℕ) → step_against w h ≡ false → Monotone w h
unfolding step_against
none-monotone w [] e i l = absurd (omega arith)
none-monotone w (a ∷ []) e i l = absurd (omega arith)
none-monotone w (a ∷ b ∷ h) e zero l = not-in-order w a b (either-false (against w a b) (step_against w (b ∷ h)) e).0
none-monotone w (a ∷ b ∷ h) e (suc i) l = none-monotone w (b ∷ h) (either-false (against w a b) (step_against w (b ∷ h)) e).1 i (omega arith)

-- T6: such a stretch is never rejected
pub monotone-kept : (e : Closeness) (w : Direction) (h : List ℕ) → Monotone w h → rejected e w h ≡ false
unfolding rejected
monotone-kept e w h m = ap (λ (t : Bool). t && le_z (pos 0) (cost e w h)) (monotone-none w h m)

-- ---- step by step: the first i bins have no step against the direction
abbrev pub OrderedTo : Direction → List ℕ → ℕ → Type 0
OrderedTo w h i = (k : ℕ) → suc k < i → InOrder w (get_or h k 0) (get_or h (suc k) 0)

pub step_kept : (w : Direction) (h : List ℕ) (i : ℕ) → 1 ≤ i → against w (get_or h (i - 1) 0) (get_or h i 0) ≡ false → OrderedTo w h i → OrderedTo w h (i + 1)
step_kept w h i a e o k l =
    last_or (suc k) (i - 1) (omega arith)
    (λ m. o k (omega arith))
    (λ m. let z : i ≡ suc k = omega arith in let y : i - 1 ≡ k = omega arith in not-in-order w (get_or h k 0) (get_or h (suc k) 0) (rw (y, z) at e))

pub step-found : (w : Direction) (h : List ℕ) (i : ℕ) → 1 ≤ i → i < length h → against w (get_or h (i - 1) 0) (get_or h i 0) ≡ true → step_against w h ≡ true
step-found w h i a b e = go (step_against w h) refl
  where
    go : (t : Bool) → step_against w h ≡ t → t ≡ true
    go true s = refl
    go false s =
        let z : i ≡ suc (i - 1) = omega arith in
        absurd (false≢true (sym (rw (sym z) at (in-order-not w _ _ (none-monotone w h s (i - 1) (omega arith)))) ∙ e))
