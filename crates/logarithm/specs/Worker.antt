-- The logarithm's worker: the state that a round takes and hands back. Assumes nothing.
-- The bits found so far form one whole number. Each round doubles it and adds the bit found, so that no round needs to know which one it is.
use Rattle.std.specs.Prelude.{ℕ, zero, suc, ◌+◌, ◌*◌, ◌-◌, ◌/◌, ◌^◌, ◌≤◌, ◌<◌, cond, leb}
use Rattle.logarithm.specs.declared.Logarithm.{Logarithm}
use Rattle.logarithm.specs.Log.{floor_log}

-- L2: the number scaled to 32 bits, and the floor of its logarithm
unfoldable pub start : ℕ → Logarithm
start x = let f : ℕ = floor_log 31 x in record { mantissa = x * 2 ^ (31 - f); bits = f }

-- a state that a round can take: the mantissa has 32 bits, and there is room for one more bit
pub record Ready (s : Logarithm) : Type 0 where
  pub low : 2 ^ 31 ≤ s.mantissa
  pub high : s.mantissa < 2 ^ 32
  pub room : s.bits < 2 ^ 63

-- L3: from one state to the next
unfoldable pub round : Logarithm → Logarithm
round s =
    cond (leb (2 ^ 63) (s.mantissa * s.mantissa))
    (record { mantissa = s.mantissa * s.mantissa / 2 ^ 32; bits = 2 * s.bits + 1 })
    (record { mantissa = s.mantissa * s.mantissa / 2 ^ 31; bits = 2 * s.bits })

-- n rounds
unfoldable pub after : ℕ → Logarithm → Logarithm
after zero s = s
after (suc n) s = after n (round s)
