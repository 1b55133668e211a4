-- The worker finds the same bits as the definition: setting each bit in its place, from 2^25 down, is the same as doubling it once for each round that follows.
-- Assumes nothing.
use Prim.Native.Nat.{ℕ, zero, suc, ◌+◌, ◌*◌, ◌/◌, ◌^◌}
use mathlib.Core.Path.{◌≡◌, ap, ◌∙◌}
use mathlib.Core.Bool.{Bool, true, false, cond}
use lib.Dec.{leb}
use native.Mathlib.Omega.{arith}
use native.Mathlib.Nat.{pow-suc, pow-zero}
use Rattle.logarithm.specs.declared.Logarithm.{Logarithm}
use Rattle.logarithm.specs.Log.{round_count, units_per_bit, rounds, lg}
use Rattle.logarithm.specs.Worker.{start, round, after}

pub gathered : (n : ℕ) (s : Logarithm) → rounds n s.mantissa (s.bits * 2 ^ n) ≡ (after n s).bits
unfolding rounds after round
gathered zero s = rw pow-zero (omega arith)
gathered (suc n) s = go (leb (2 ^ 63) (s.mantissa * s.mantissa)) (λ t. gathered n t)
  where
    go : (t : Bool) → ((u : Logarithm) → rounds n u.mantissa (u.bits * 2 ^ n) ≡ (after n u).bits)
        → cond t (rounds n (s.mantissa * s.mantissa / 2 ^ 32) (s.bits * 2 ^ suc n + 2 ^ n)) (rounds n (s.mantissa * s.mantissa / 2 ^ 31) (s.bits * 2 ^ suc n))
        ≡ (after n (cond t (record { mantissa = s.mantissa * s.mantissa / 2 ^ 32; bits = 2 * s.bits + 1 }) (record { mantissa = s.mantissa * s.mantissa / 2 ^ 31; bits = 2 * s.bits }))).bits
    go true ih =
        ap (λ (l : ℕ). rounds n (s.mantissa * s.mantissa / 2 ^ 32) l) (omega (arith, ap (λ (p : ℕ). s.bits * p) (pow-suc 2 n)))
        ∙ ih (record { mantissa = s.mantissa * s.mantissa / 2 ^ 32; bits = 2 * s.bits + 1 })
    go false ih =
        ap (λ (l : ℕ). rounds n (s.mantissa * s.mantissa / 2 ^ 31) l) (omega (arith, ap (λ (p : ℕ). s.bits * p) (pow-suc 2 n)))
        ∙ ih (record { mantissa = s.mantissa * s.mantissa / 2 ^ 31; bits = 2 * s.bits })

-- the worker's last bits are the logarithm
pub lg-worker : (x : ℕ) → lg x ≡ (after round_count (start x)).bits
unfolding lg start units_per_bit
lg-worker x = gathered round_count (start x)
