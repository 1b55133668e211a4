-- The joins put together: what every join preserves holds for the modes of a line, and a finished line is as D3 says. Assumes nothing.
use Prim.Native.Nat.{ℕ, suc, ◌-◌, ◌≤◌, ◌<◌}
use mathlib.Core.Path.{◌≡◌, ap, subst, ◌∙◌}
use mathlib.Core.Bool.{true}
use mathlib.Core.List.{List, [], ◌∷◌}
use mathlib.Core.Option.{some}
use lib.ListN.{length, drop, length-append, length-drop, get_or-append}
use lib.Seq.{length-take-le, get_or_at}
use lib.IntN.{pos}
use lib.Signed.{lt_z}
use native.Mathlib.Omega.{arith}
use Rattle.lists.specs.Lists.{total, part, Rising}
use Rattle.lists.proofs.Cases.{by_order}
use Rattle.lists.proofs.Sums.{total-part-le}
use Rattle.pooling.specs.Blocks.{Direction}
use Rattle.pooling.specs.Limits.{most_bins, most_counts}
use Rattle.verdict.specs.Test.{Closeness}
use Rattle.verdict.specs.Exactness.{VerdictSound}
use Rattle.verdict.proofs.Sound.{verdict-sound}
use Rattle.segmentation.specs.Segments.{Segment, segment_at, bin_at, first_segments}
use Rattle.segmentation.specs.Joining.{line_reader, Join, join, next_join, line_joins, line_modes, line_separators}
use Rattle.segmentation.specs.Inside.{Inside, mode_count}
use Rattle.segmentation.specs.Finished.{Cut, SingleHump, AlwaysFinished}
use Rattle.segmentation.proofs.Settled.{next_of, next-run, next-below, join-all-keeps, line-none-joinable}
use Rattle.segmentation.proofs.Kept.{Run, join-cut, join-inside, join-counts, join-humps}
use Rattle.segmentation.proofs.ModeStarts.{starts_of, starts-length, start-at}
use Rattle.segmentation.proofs.OneMode.{one-mode}
use Rattle.segmentation.proofs.FirstCut.{first-cut, first-humps, first-inside, first-counts}

-- ---- behind every verdict of a part of a line
pub part_length : (i j : ℕ) (h : List ℕ) → i ≤ j → j < length h → length (part i j h) ≡ suc j - i
unfolding part
part_length i j h a b = length-take-le (suc j - i) (drop i h) (omega (arith, length-drop i h))

part_sound : (e : Closeness) (w : Direction) (h : List ℕ) → length h ≤ most_bins → total h ≤ most_counts
    → (i j : ℕ) → i ≤ j → j < length h → VerdictSound e w (part i j h)
part_sound e w h bins counts i j a b =
    verdict-sound e w (part i j h) (omega (arith, part_length i j h a b)) (omega (arith, total-part-le i j h (omega arith)))

-- ---- the separators of a line: the starts of its modes, and the last bin
module _ (e : Closeness) (h : List ℕ) where
  abbrev starts : List ℕ
  starts = starts_of (line_modes e h)

  pub separators-length : length (line_separators e h) ≡ suc (length (line_modes e h))
  unfolding line_separators
  separators-length = omega (arith, length-append starts ((length h - 1) ∷ []), starts-length (line_modes e h))

  pub separator-at : (i : ℕ) → i < length (line_modes e h) → bin_at (line_separators e h) i ≡ (segment_at (line_modes e h) i).start
  unfolding line_separators
  separator-at i l =
      get_or-append starts ((length h - 1) ∷ []) 0 i (omega (arith, starts-length (line_modes e h))) ∙ start-at (line_modes e h) i

  pub separator-last : bin_at (line_separators e h) (length (line_modes e h)) ≡ length h - 1
  unfolding line_separators
  separator-last = get_or_at starts (length h - 1) [] 0 (length (line_modes e h)) (starts-length (line_modes e h))

  pub separators-rise : Cut (length h) (line_modes e h) → Rising (line_separators e h)
  separators-rise c i l =
      let ss = line_modes e h in
      let k : i < length ss = omega (arith, separators-length) in
      let a = separator-at i k in
      let b = c.chain.ascending i k in
      by_order (suc i) (length ss)
      (λ m. omega (arith, separator-at (suc i) m, c.chain.adjacent i m))
      (λ m.
      let last : suc i ≡ length ss = omega arith in
      let at : i ≡ length ss - 1 = omega arith in
      omega (
        arith,
        ap (bin_at (line_separators e h)) last ∙ separator-last,
        ap (λ (n : ℕ). (segment_at ss n).end) at,
        c.to_last_bin,
      ))

-- ---- of the first segments, whatever proves it of them
module _ (e : Closeness) (h : List ℕ) (two : 2 ≤ length h) where
  -- what every join of a line keeps, given its cut, holds of its modes
  pub kept : (P : List Segment → Type 0)
      → ((ss : List Segment) (j : Join) → next_join e (line_reader h) ss ≡ some j → Cut (length h) ss → Run ss j → P ss → P (join ss j))
      → P (first_segments h) → Cut (length h) (line_modes e h) × P (line_modes e h)
  unfolding line_modes
  kept P keeps p =
      join-all-keeps (line_joins e (line_reader h)) (λ ss. Cut (length h) ss × P ss)
      (λ ss j q c. let v = next-run e (line_reader h) ss j q in (join-cut (length h) ss j c.0 v, keeps ss j q c.0 v c.1))
      (length (first_segments h)) (first_segments h) (first-cut h two, p)

  cut_inside : Cut (length h) (line_modes e h) × Inside (line_modes e h)
  cut_inside = kept Inside (λ ss j q c v. join-inside (length h) ss j c v) (first-inside h two)

  pub modes-cut : Cut (length h) (line_modes e h)
  modes-cut = cut_inside.0

  pub modes-inside : Inside (line_modes e h)
  modes-inside = cut_inside.1

  pub modes-counts : 0 < total h → (m : ℕ) → m < length (line_modes e h) → 0 < mode_count h (line_modes e h) m
  modes-counts filled =
      (kept (λ ss. (m : ℕ) → m < length ss → 0 < mode_count h ss m) (λ ss j q c v. join-counts (length h) ss j c v h) (first-counts h two filled)).1

  pub modes-humps : (m : ℕ) → m < length (line_modes e h) → SingleHump e (line_reader h) (line_modes e h) m
  modes-humps = (kept Humps next-humps (first-humps e h two)).1
    where
      Humps : List Segment → Type 0
      Humps ss = (m : ℕ) → m < length ss → SingleHump e (line_reader h) ss m

      next-humps : (ss : List Segment) (j : Join) → next_join e (line_reader h) ss ≡ some j → Cut (length h) ss → Run ss j → Humps ss → Humps (join ss j)
      next-humps ss j q c v humps =
          let r = next_of e (line_reader h) ss j q in
          subst (λ (k : Join). lt_z k.cost (pos 0) ≡ true → Run ss k → Humps (join ss k)) r.same
          (λ b w. join-humps e (line_reader h) ss r.first r.len b w humps) (next-below e (line_reader h) ss j q) v

pub line-finished : AlwaysFinished
line-finished e h two bins counts =
    let c = modes-cut e h two in
    record {
      finished = record {
        cut = c;
        none_joinable = line-none-joinable e h;
        humps = modes-humps e h two;
        one_mode = one-mode (length h) (line_modes e h) c;
        verdicts = λ w. part_sound e w h bins counts;
      };
      rising = separators-rise e h c;
    }
