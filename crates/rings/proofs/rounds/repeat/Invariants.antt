-- So many members stand again, and what comes before them is as it was.
use Rattle.std.proofs.Common.{◌≡◌, ℕ, ◌+◌, ◌<◌, get_or}
use Rattle.rings.proofs.rounds.repeat.Given as goal

abbrev pub invariant-loop-k : goal.invariant-loop-k
invariant-loop-k l = record {
  kept : (m : ℕ) → m < l.fn.from + l.fn.n → get_or l.a m 0 ≡ get_or l.fn.a m 0;
  again : (m : ℕ) → m < l.k → get_or l.a (l.fn.from + l.fn.n + m) 0 ≡ get_or l.fn.a (l.fn.from + m) 0 + l.fn.by;
}
