-- What a search knows of the stretch that it tests: its fit, and the best part so far. No public promise cites it. Assumes nothing.
use Rattle.std.specs.Prelude.{ℕ, List, ℤ}
use Rattle.lists.specs.Lists.{total}
use Rattle.pooling.specs.declared.Block.{Block}
use Rattle.pooling.specs.Blocks.{direction, blocks}
use Rattle.verdict.specs.declared.Threshold.{Threshold}
use Rattle.verdict.specs.declared.Best.{Best}
use Rattle.verdict.specs.declared.parts.Turn.{Turn}
use Rattle.verdict.specs.declared.parts.Stretch.{Stretch}
use Rattle.verdict.specs.Near.{Spares, NearUpTo}
use Rattle.verdict.specs.Scratch.{start_of, first_of, end_of, Attained, BestOf}

-- the blocks of the stretch's fit
abbrev pub fit_of : Stretch → List Block
fit_of s = blocks (direction s.rising) s.h.now

-- of the parts that end at bin j, a turn visits those that begin from first_in up to, but not including, end_in
abbrev pub first_in : Turn → Stretch → ℕ → ℕ
first_in turn s j = first_of turn (start_of s.places.now j)

abbrev pub end_in : Turn → Stretch → ℕ → ℕ
end_in turn s j = end_of turn (start_of s.places.now j) j

-- the parts that end at bin j and begin from `first` up to, but not including, `end` are near
abbrev pub NearIn : Stretch → Threshold → ℕ → ℕ → ℕ → Type 0
NearIn s t j first end = NearUpTo s.h.now (fit_of s) t j first end

-- the best so far is the weight of a part, and its threshold spares each near part its logarithms
abbrev pub SoFar : Stretch → Best → Type 0
SoFar s b = Attained s.h.now (fit_of s) b.weight × Spares (total s.h.now) b

-- the best weight of the parts visited, up to the limit
abbrev pub BestIn : Stretch → ℤ → (ℕ → ℕ → Type 0) → ℤ → Type 0
BestIn s limit visited r = BestOf s.h.now (fit_of s) limit visited r
