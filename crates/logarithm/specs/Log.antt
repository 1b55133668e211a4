-- The logarithm: rules L1 to L3. The number of rounds is given only here. Assumes nothing.
use Rattle.std.specs.Prelude.{ℕ, zero, suc, ◌+◌, ◌*◌, ◌-◌, ◌/◌, ◌^◌, ◌≤◌, ◌<◌, cond, leb}

-- L3: how many rounds there are
unfoldable pub round_count : ℕ
round_count = 26

-- L1: the numbers that have a logarithm
pub record Loggable (x : ℕ) : Type 0 where
  pub low : 1 ≤ x
  pub high : x < 2 ^ 32

-- L1: units per bit
unfoldable pub units_per_bit : ℕ
units_per_bit = 2 ^ round_count

-- L2: the floor of log2 x, for x < 2 ^ suc n
unfoldable pub floor_log : ℕ → ℕ → ℕ
floor_log zero x = 0
floor_log (suc n) x = let r = floor_log n x in cond (leb (2 ^ suc n) x) (suc n) r

-- L3: n rounds are left, y is the scaled number and l the logarithm so far. If the square has 64 bits, this round's bit is set; either way 32 bits of the square are kept
unfoldable pub rounds : ℕ → ℕ → ℕ → ℕ
rounds zero y l = l
rounds (suc n) y l =
    let set = rounds n (y * y / 2 ^ 32) (l + 2 ^ n) in
    let kept = rounds n (y * y / 2 ^ 31) l in
    cond (leb (2 ^ 63) (y * y)) set kept

-- L2: x is scaled to 32 bits, and l starts as the floor of its logarithm; then come the rounds
unfoldable pub lg : ℕ → ℕ
lg x = let f : ℕ = floor_log 31 x in rounds round_count (x * 2 ^ (31 - f)) (f * units_per_bit)
