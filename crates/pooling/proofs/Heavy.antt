-- Blocks that pooling makes for an increasing fit: the first bins of a block, however many, never have a mean below the block's, and means rise strictly. Assumes nothing.
use mathlib.Core.Path.{◌≡◌, refl, sym, ap, subst}
use mathlib.Core.List.{List, [], ◌∷◌, ◌++◌, append_assoc}
use Prim.Native.Nat.{ℕ, suc, ◌+◌, ◌*◌, ◌-◌, ◌≤◌, ◌<◌}
use native.Mathlib.Nat.{mul-le-mul_left, le_of_mul-le-mul_left, eq_of_mul-eq-mul_left}
use native.Mathlib.Omega.{arith}
use borrow.Author.Tests.{ltb-true, ltb-false}
use lib.ListN.{length, length-append}
use Rattle.pooling.specs.Blocks.{Block, increasing, below, merged, push, blocks, Strict}
use Rattle.pooling.specs.Best.{CutInto, empty, first}
use Rattle.pooling.proofs.Basics.{strict-tail, block-eq}
use Rattle.lists.specs.Lists.{total}
use Rattle.lists.proofs.Cases.{by_cond}
use Rattle.lists.proofs.Sums.{total-append}

-- Through the bins xs, what they hold times l stays s or more per bin, with e to start with and e' left at the end
abbrev pub Run : ℕ → ℕ → ℕ → List ℕ → ℕ → Type 0
Run l s e [] e' = e ≡ e'
Run l s e (x ∷ xs) e' = (s ≤ e + x * l) × Run l s (e + x * l - s) xs e'

-- the bins xs may form the block b: no first part of them has a mean below that of all
pub record Forms (xs : List ℕ) (b : Block) : Type 0 where
  pub long : length xs ≡ b.len
  pub some : 0 < b.len
  pub sums : total xs ≡ b.sum
  pub heavy : Run b.len b.sum 0 xs 0

-- the bins cut into such blocks
pub data Cut : List ℕ → List Block → Type 0 where
  done : Cut [] []
  seg : {x h : List ℕ} {b : Block} {bs : List Block} → Forms x b → Cut h bs → Cut (x ++ h) (b ∷ bs)

pub forms-cut : {h : List ℕ} {bs : List Block} → Cut h bs → CutInto h bs
forms-cut done = empty
forms-cut (seg {x = x} {h = h} {b = b} {bs = bs} p k) =
    subst (λ (c : Block). CutInto (x ++ h) (c ∷ bs)) (block-eq p.sums p.long) (first x (omega (arith, p.long, p.some)) (forms-cut k))

-- and the means of the blocks rise
pub record Rises (h : List ℕ) (bs : List Block) : Type 0 where
  pub cut : Cut h bs
  pub rising : Strict increasing bs

run-append : (l s e : ℕ) (xs ys : List ℕ) (e' e'' : ℕ) → Run l s e xs e' → Run l s e' ys e'' → Run l s e (xs ++ ys) e''
run-append l s e [] ys e' e'' p q = subst (λ (k : ℕ). Run l s k ys e'') (sym p) q
run-append l s e (x ∷ xs) ys e' e'' p q = (p.0, run-append l s (e + x * l - s) xs ys e' e'' p.1 q)

-- the facts of numbers that the two lemmas below need, with what is left after a bin as a number of its own
module _ (l₁ s₁ l₂ s₂ d : ℕ) (hd : d + s₂ * l₁ ≡ s₁ * l₂) where
  first-le : (k e E x : ℕ) → l₁ * E ≡ (l₁ + l₂) * e + k * d → s₁ ≤ e + x * l₁ → l₁ * (s₁ + s₂) ≤ l₁ * (E + x * (l₁ + l₂))
  first-le k e E x h_e r = omega (arith, mul-le-mul_left (l₁ + l₂) r)

  first-eq : (k e E x e' E' : ℕ) → l₁ * E ≡ (l₁ + l₂) * e + k * d → e' + s₁ ≡ e + x * l₁ → E' + (s₁ + s₂) ≡ E + x * (l₁ + l₂)
      → l₁ * E' ≡ (l₁ + l₂) * e' + suc k * d
  first-eq k e E x e' E' h_e p q = omega (arith, ap (λ (z : ℕ). (l₁ + l₂) * z) p, ap (λ (z : ℕ). l₁ * z) q)

  second-le : (n e E x : ℕ) → l₂ * E ≡ (l₁ + l₂) * e + suc n * d → s₂ ≤ e + x * l₂ → l₂ * (s₁ + s₂) ≤ l₂ * (E + x * (l₁ + l₂))
  second-le n e E x h_e r = omega (arith, mul-le-mul_left (l₁ + l₂) r)

  second-eq : (n e E x e' E' : ℕ) → l₂ * E ≡ (l₁ + l₂) * e + suc n * d → e' + s₂ ≡ e + x * l₂ → E' + (s₁ + s₂) ≡ E + x * (l₁ + l₂)
      → l₂ * E' ≡ (l₁ + l₂) * e' + n * d
  second-eq n e E x e' E' h_e p q = omega (arith, ap (λ (z : ℕ). (l₁ + l₂) * z) p, ap (λ (z : ℕ). l₂ * z) q)

pub back : (a b : ℕ) → b ≤ a → a - b + b ≡ a
back a b h = omega arith

module _ (l₁ s₁ l₂ s₂ d : ℕ) (hd : d + s₂ * l₁ ≡ s₁ * l₂) where
  -- through the first block's bins, k of which are passed
  run-first : 0 < l₁ → (xs : List ℕ) (k e E : ℕ) → k + length xs ≡ l₁ → l₁ * E ≡ (l₁ + l₂) * e + k * d → Run l₁ s₁ e xs 0 → Run (l₁ + l₂) (s₁ + s₂) E xs d
  run-first some [] k e E hk h_e r =
      let f : k ≡ l₁ = omega arith in
      eq_of_mul-eq-mul_left l₁ some E d (omega (arith, ap (λ (z : ℕ). z * d) f, ap (λ (z : ℕ). (l₁ + l₂) * z) r))
  run-first some (x ∷ xs) k e E hk h_e r =
      let f : s₁ + s₂ ≤ E + x * (l₁ + l₂) = le_of_mul-le-mul_left {k = l₁} (first-le l₁ s₁ l₂ s₂ d hd k e E x h_e r.0) some in (
        f,
        run-first some xs (suc k) (e + x * l₁ - s₁) (E + x * (l₁ + l₂) - (s₁ + s₂)) (omega arith)
            (first-eq l₁ s₁ l₂ s₂ d hd k e E x (e + x * l₁ - s₁) (E + x * (l₁ + l₂) - (s₁ + s₂)) h_e (back _ _ r.0) (back _ _ f)) r.1,
      )

  -- through the second block's
  run-second : 0 < l₂ → (xs : List ℕ) (e E : ℕ) → l₂ * E ≡ (l₁ + l₂) * e + length xs * d → Run l₂ s₂ e xs 0 → Run (l₁ + l₂) (s₁ + s₂) E xs 0
  run-second some [] e E h_e r =
      eq_of_mul-eq-mul_left l₂ some E 0 (omega (arith, ap (λ (z : ℕ). (l₁ + l₂) * z) r))
  run-second some (x ∷ xs) e E h_e r =
      let f : s₁ + s₂ ≤ E + x * (l₁ + l₂) = le_of_mul-le-mul_left {k = l₂} (second-le l₁ s₁ l₂ s₂ d hd (length xs) e E x h_e r.0) some in (
        f,
        run-second some xs (e + x * l₂ - s₂) (E + x * (l₁ + l₂) - (s₁ + s₂))
            (second-eq l₁ s₁ l₂ s₂ d hd (length xs) e E x (e + x * l₂ - s₂) (E + x * (l₁ + l₂) - (s₁ + s₂)) h_e (back _ _ r.0) (back _ _ f)) r.1,
      )

-- the mean of b is not strictly below that of c: they may be one block
pub forms-join : {x y : List ℕ} {b c : Block} → Forms x b → Forms y c → c.sum * b.len ≤ b.sum * c.len → Forms (x ++ y) (merged b c)
forms-join {x} {y} {b} {c} p q h =
    let d : ℕ = b.sum * c.len - c.sum * b.len in
    let hd : d + c.sum * b.len ≡ b.sum * c.len = back _ _ h in
    record {
      long = omega (arith, length-append x y, p.long, q.long);
      some = omega (arith, p.some);
      sums = omega (arith, total-append x y, p.sums, q.sums);
      heavy = run-append (b.len + c.len) (b.sum + c.sum) 0 x y d 0
          (run-first b.len b.sum c.len c.sum d hd p.some x 0 0 0 (omega (arith, p.long)) (omega arith) p.heavy)
          (run-second b.len b.sum c.len c.sum d hd q.some y 0 d (omega (arith, ap (λ (z : ℕ). z * d) q.long)) q.heavy);
    }

-- ---- pooling makes such blocks
push-rises : {x h : List ℕ} {b : Block} {bs : List Block} → Forms x b → Cut h bs → Strict increasing bs → Rises (x ++ h) (push increasing b bs)
unfolding push
push-rises {b} p done r = record { cut = seg p done; rising = tt }
push-rises {x} {b} p (seg {x = y} {h = h} {b = c} {bs = cs} q k) r =
    by_cond (λ (bs : List Block). Rises (x ++ (y ++ h)) bs) (below b c) (b ∷ c ∷ cs) (push increasing (merged b c) cs)
    (λ e. record { cut = seg p (seg q k); rising = (ltb-true _ _ e, r) })
    (λ e. subst (λ (z : List ℕ). Rises z (push increasing (merged b c) cs)) (append_assoc x y h)
    (push-rises {x = x ++ y} (forms-join p q (ltb-false _ _ e)) k (strict-tail increasing c cs r)))

pub single : (x : ℕ) → Forms (x ∷ []) (record { sum = x; len = 1 })
single x = record { long = refl; some = omega arith; sums = omega arith; heavy = (omega arith, omega arith) }

pub blocks-rise : (h : List ℕ) → Rises h (blocks increasing h)
unfolding blocks
blocks-rise [] = record { cut = done; rising = tt }
blocks-rise (x ∷ h) =
    let k = blocks-rise h in
    push-rises (single x) k.cut k.rising
