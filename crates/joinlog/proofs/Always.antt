-- The log of every line is sound; it is the one log that can be followed to its end, and any other leaves the method somewhere. Assumes nothing.
use Prim.Native.Nat.{ℕ, ◌*◌}
use mathlib.Core.Path.{◌≡◌, refl, sym, ap, ◌∙◌}
use mathlib.Core.Bool.{Bool, true, false}
use mathlib.Core.List.{List}
use native.Mathlib.Omega.{arith}
use lib.IntN.{ℤ}
use lib.ListN.{length}
use Rattle.verdict.specs.Test.{Closeness}
use Rattle.segmentation.specs.Segments.{first_segments}
use Rattle.segmentation.specs.Joining.{line_reader, line_joins, line_modes}
use Rattle.segmentation.proofs.Settled.{line-shortens}
use Rattle.joinlog.specs.JoinLog.{made_on_line, record_numbers, log_of, line_log, same_numbers, LogAlwaysSound, Replayed, Departs, LogAlwaysDecided}
use Rattle.joinlog.proofs.Numbers.{same-logs, logs-equal}
use Rattle.joinlog.proofs.Made.{made-applied, made-follows, follows-only}
use Rattle.joinlog.proofs.Logs.{log-length}
use Rattle.joinlog.proofs.Lines.{line-made-few}
use Rattle.joinlog.proofs.Departing.{other-leaves, never-leaves}

pub log-always-sound : LogAlwaysSound
unfolding made_on_line line_modes
log-always-sound e h =
    let w = line_joins e (line_reader h) in
    let ss = first_segments h in
    let f = made-follows w (line-shortens e (line_reader h)) (length ss) ss (omega arith) in
    record {
      follows = f;
      only = λ js p. follows-only w js (made_on_line e h) ss p f;
      ends = made-applied w (length ss) ss;
      few = line-made-few e h;
    }

module _ (e : Closeness) (h : List ℕ) (log : List ℤ) where
  to_the_end : log ≡ line_log e h → Replayed e h log
  unfolding line_log
  to_the_end q = let s = log-always-sound e h in record { joins = made_on_line e h; spelled = q; follows = s.follows; ends = s.ends }

  only_one : Replayed e h log → log ≡ line_log e h
  unfolding line_log
  only_one r = r.spelled ∙ ap log_of ((log-always-sound e h).only r.joins r.follows)

  leaves-somewhere : ¬ (log ≡ line_log e h) → Departs e h log
  unfolding line_log made_on_line
  leaves-somewhere d =
      let l = other-leaves (line_joins e (line_reader h)) (line-shortens e (line_reader h)) (length (first_segments h)) (first_segments h) log (omega arith) (others log (line_log e h) d) in
      record { made = l.made; rest = l.rest; read = l.read; follows = l.follows; leaves = l.leaves }
    where
      others : (xs ys : List ℤ) → ¬ (xs ≡ ys) → same_numbers xs ys ≡ false
      others xs ys n = go (same_numbers xs ys) refl
        where
          go : (t : Bool) → same_numbers xs ys ≡ t → t ≡ false
          go true q = absurd (n (logs-equal xs ys q))
          go false q = refl

  leaves-never : Departs e h log → ¬ (log ≡ line_log e h)
  unfolding line_log
  leaves-never d q =
      never-leaves (line_joins e (line_reader h)) (made_on_line e h) d.made d.rest (first_segments h) (log-always-sound e h).follows d.follows d.leaves (sym q ∙ d.read)

pub log-always-decided : LogAlwaysDecided
log-always-decided e h log = record { replayed = to_the_end e h log; only = only_one e h log; departs = leaves-somewhere e h log; never = leaves-never e h log }

-- ---- what a caller of this crate knows of a line's log
pub line-log-same : (e : Closeness) (h : List ℕ) (log : List ℤ) → (same_numbers log (line_log e h) ≡ true → log ≡ line_log e h) × (log ≡ line_log e h → same_numbers log (line_log e h) ≡ true)
line-log-same e h log = (logs-equal log (line_log e h), λ q. ap (λ (xs : List ℤ). same_numbers xs (line_log e h)) q ∙ same-logs (line_log e h))

pub line-log-length : (e : Closeness) (h : List ℕ) → length (line_log e h) ≡ record_numbers * length (made_on_line e h)
unfolding line_log
line-log-length e h = log-length (made_on_line e h)
