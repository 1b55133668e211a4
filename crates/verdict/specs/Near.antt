-- When a part is known, without a logarithm, to weigh no more than the best part so far. No public promise cites it. Assumes nothing.
--   gap                      d = |kB − A|: how far the count is from the fitted mass
--   fitted_room, count_room  A·(NB − A) and kB·(NB − kB): the larger they are beside d², the smaller the weight
--   a threshold c, t         s is small beside a room M if s ≤ ⌊⌊M/16⌋·c/2^t⌋
use Rattle.std.specs.Prelude.{ℕ, ◌+◌, ◌*◌, ◌-◌, ◌/◌, ◌^◌, ◌≤◌, ◌<◌, ◌≡◌, Bool, true, cond, ◌||◌, List, leb, min, pos, ◌≤ℤ◌}
use Rattle.std.specs.Int.Signed.{lt_z}
use Rattle.lists.specs.Lists.{total, part}
use Rattle.pooling.specs.declared.Block.{Block}
use Rattle.verdict.specs.declared.Mass.{Mass}
use Rattle.verdict.specs.declared.Threshold.{Threshold}
use Rattle.verdict.specs.declared.Best.{Best}
use Rattle.verdict.specs.Test.{fitted_mass, weight, part_weight}
use Rattle.verdict.specs.Exactness.{LogsDefined}

-- one of the two differences is 0
abbrev pub gap : ℕ → Mass → ℕ
gap k m = (k * m.den - m.num) + (m.num - k * m.den)

abbrev pub fitted_room : ℕ → Mass → ℕ
fitted_room n m = m.num * (n * m.den - m.num)

abbrev pub count_room : ℕ → ℕ → Mass → ℕ
count_room n k m = k * m.den * (n * m.den - k * m.den)

-- what the machine can work with
pub record Usable (t : Threshold) : Type 0 where
  pub factor : t.factor < 64
  pub shift : t.shift < 64

abbrev pub is_small : ℕ → ℕ → Threshold → Bool
is_small s room t = leb s (room / 2 ^ 4 * t.factor / 2 ^ t.shift)

-- d² beside the fitted mass's room; or 1 + .. + d, about half of it, beside the smaller of the two rooms
unfoldable pub is_near : ℕ → ℕ → Mass → Threshold → Bool
is_near n k m t =
    is_small (gap k m * gap k m) (fitted_room n m) t
    || is_small (gap k m * (gap k m + 1) / 2) (min (fitted_room n m) (count_room n k m)) t

-- the best weight so far, 0 or more, with a threshold that spares each near part of a stretch of n counts its logarithms
pub record Spares (n : ℕ) (b : Best) : Type 0 where
  pub least : pos 0 ≤ℤ b.weight
  pub usable : Usable b.threshold
  pub spares : (k : ℕ) (m : Mass) → LogsDefined n k m → is_near n k m b.threshold ≡ true → weight n k m ≤ℤ b.weight

-- the best after the part from bin i to bin j: the larger weight, with a threshold for it
pub record Tried (h : List ℕ) (bs : List Block) (i j : ℕ) (b r : Best) : Type 0 where
  pub larger : r.weight ≡ cond (lt_z b.weight (part_weight h bs i j)) (part_weight h bs i j) b.weight
  pub spares : Spares (total h) r

-- the parts that end at bin j and begin from `first` up to, but not including, `end` are near
abbrev pub NearUpTo : List ℕ → List Block → Threshold → ℕ → ℕ → ℕ → Type 0
NearUpTo h bs t j first end = (i : ℕ) → first ≤ i → i < end → is_near (total h) (total (part i j h)) (fitted_mass h bs i j) t ≡ true
