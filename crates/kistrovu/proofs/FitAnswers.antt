-- The answer of a fit, served and turned down. Assumes nothing.
use Prim.Native.Nat.{ℕ}
use mathlib.Core.Path.{◌≡◌, sym, ◌∙◌}
use mathlib.Core.Bool.{Bool}
use mathlib.Core.List.{List, map}
use borrow.Author.Tests.{eq-eqb, ne_eqb}
use lib.ListN.{replicate}
use Rattle.lists.specs.Lists.{over}
use Rattle.lists.proofs.Buffers.{over-padded, padded-none}
use Rattle.pooling.specs.declared.Block.{Block}
use Rattle.pooling.specs.Blocks.{direction, fitted}
use Rattle.grounds.specs.Grounds.{fit_number}
use Rattle.kistrovu.specs.Answers.{fit_answer}

module _ (rising : Bool) (h : List ℕ) (n : ℕ) (number : n ≡ fit_number h) where
  pub fit-answer-served : n ≡ 0 → (sums lengths : List ℕ)
      → sums ≡ over (map (λ (b : Block). b.sum) (fitted (direction rising) h)) (replicate 256 0)
      → lengths ≡ over (map (λ (b : Block). b.len) (fitted (direction rising) h)) (replicate 256 0)
      → record { number = n; sums = sums; lengths = lengths } ≡ fit_answer rising h
  unfolding fit_answer
  fit-answer-served z sums lengths e f =
      rw (eq-eqb _ _ (sym number ∙ z))
      (λ k. record {
        number = number k;
        sums = (e ∙ over-padded 256 0 (map (λ (b : Block). b.sum) (fitted (direction rising) h))) k;
        lengths = (f ∙ over-padded 256 0 (map (λ (b : Block). b.len) (fitted (direction rising) h))) k;
      })

  pub fit-answer-turned-down : ¬ (n ≡ 0) → record { number = n; sums = replicate 256 0; lengths = replicate 256 0 } ≡ fit_answer rising h
  unfolding fit_answer
  fit-answer-turned-down d =
      rw (ne_eqb _ _ (λ z. d (number ∙ z)))
      (λ k. record { number = number k; sums = sym (padded-none 256 0) k; lengths = sym (padded-none 256 0) k })
