-- A ring call on a turned ring: the same answer, and the separators turned along. Assumes nothing.
use Prim.Native.Nat.{ℕ}
use mathlib.Core.Path.{◌≡◌, refl, sym, ap, ◌∙◌}
use mathlib.Core.Bool.{Bool, true, false, cond}
use mathlib.Core.List.{List}
use borrow.Author.Tests.{eqb-true, eq-eqb}
use lib.Dec.{eqb}
use lib.ListN.{length}
use Rattle.lists.specs.Lists.{contains}
use Rattle.lists.proofs.Buffers.{over-front}
use Rattle.verdict.specs.Test.{Closeness}
use Rattle.listing.specs.Listing.{ring_separators}
use Rattle.listing.specs.Turning.{turned, turned_bin, SingleLowest, TurnsAlong}
use Rattle.listing.proofs.TurnedBins.{always-turned}
use Rattle.listing.proofs.Turning.{turning-keeps}
use Rattle.grounds.specs.Grounds.{modes_number}
use Rattle.kistrovu.specs.Answers.{modes_answer, modes_list, ring_answer, ring_list}
use Rattle.kistrovu.specs.Facts.{listed_separators, RingTurns}
use Rattle.kistrovu.proofs.Modes.{accepted}

-- a served call lists the separators
listed-served : (e : Closeness) (h list : List ℕ) → modes_number e h (length list) ≡ 0 → listed_separators e h list ≡ ring_separators e h
unfolding ring_answer ring_list modes_answer modes_list
listed-served e h list z = rw (eq-eqb (modes_number e h (length list)) 0 z) (over-front (ring_separators e h) list (length (ring_separators e h)) refl)

module _ (e : Closeness) (k : ℕ) (h : List ℕ) (single : SingleLowest h) where
  along : (places : ℕ) → modes_number e h places ≡ 0 → TurnsAlong e k h
  along places z = turning-keeps e k h (accepted e h places z).histogram.some single

  -- of a ring the grounds see only how many bins it has, and the sum of their counts
  same_number : (places : ℕ) → modes_number e (turned k h) places ≡ modes_number e h places
  unfolding modes_number
  same_number places = let t = always-turned k h in rw (t.same_length, t.same_total) refl

  same_answer : (places : ℕ) → ring_answer e (turned k h) places ≡ ring_answer e h places
  unfolding ring_answer modes_answer
  same_answer places = rw (same_number places) (ap (λ (n : ℕ). record { number = number; separators = n }) (go (eqb number 0) refl))
    where
      number : ℕ
      number = modes_number e h places

      go : (t : Bool) → eqb number 0 ≡ t → cond t (length (ring_separators e (turned k h))) 0 ≡ cond t (length (ring_separators e h)) 0
      go true q = (along places (eqb-true number 0 q)).as_many
      go false q = refl

pub ring-turns : RingTurns
ring-turns e k h single = record {
  answer = same_answer e k h single;
  listed = λ list list' here there b l.
      ap (λ (xs : List ℕ). contains xs (turned_bin k h b)) (listed-served e (turned k h) list' there)
      ∙ (along e k h single (length list) here).separators b l ∙ ap (λ (xs : List ℕ). contains xs b) (sym (listed-served e h list here));
  modes = along e k h single;
}
