-- Places that rise within one turn of a ring, listed from the first one past the last bin on: their bins rise. Assumes nothing.
use Prim.Native.Nat.{ℕ, suc, ◌+◌, ◌-◌, ◌%◌, ◌≤◌, ◌<◌}
use mathlib.Core.Path.{◌≡◌, refl, sym, ap, ◌∙◌}
use mathlib.Core.List.{List, ◌++◌, map, map-append}
use native.Mathlib.Omega.{arith}
use native.Mathlib.Nat.{mod-lt}
use lib.ListN.{length, take, drop, get_or, length-map, take-append-drop}
use borrow.Author.Tests.{leb-true, leb-false}
use Rattle.lists.specs.Lists.{numbers, filter, first_index, contains, Rising}
use Rattle.lists.proofs.Cases.{by_order}
use Rattle.lists.proofs.Places.{map_at}
use Rattle.lists.proofs.Rotations.{mod_below, mod-above, turned-length, turned-at}
use Rattle.lists.proofs.Firsts.{fails-before, passes-there, first-within}
use Rattle.lists.proofs.Risings.{rising-up, contains-turned, rising-of}
use Rattle.listing.specs.Numbers.{bin_at_place, past_last, bins_from}

-- what is known of the places where a ring's modes start
pub record OneTurn (opening bins : ℕ) (places : List ℕ) : Type 0 where
  pub in_ring : opening < bins
  pub rises : Rising places
  pub first_turn : (m : ℕ) → m < length places → get_or places m 0 < bins

module _ (opening bins : ℕ) (places : List ℕ) (turn : OneTurn opening bins places) where
  abbrev bin : ℕ → ℕ
  bin = bin_at_place opening bins

  abbrev from : ℕ
  from = first_index (past_last opening bins) places

  abbrev rotated : List ℕ
  rotated = bins_from opening bins from places

  within : from ≤ length places
  within = first-within (past_last opening bins) places

  bin-before : (m : ℕ) → m < from → bin (get_or places m 0) ≡ opening + get_or places m 0
  bin-before m l =
      let place = opening + get_or places m 0 in
      mod_below place bins (leb-false bins place (fails-before (past_last opening bins) places 0 m l))

  bin-after : (m : ℕ) → from ≤ m → m < length places → bin (get_or places m 0) + bins ≡ opening + get_or places m 0
  bin-after m a l =
      let place = opening + get_or places m 0 in
      let first = leb-true bins (opening + get_or places from 0) (passes-there (past_last opening bins) places 0 (omega arith)) in
      let past : bins ≤ place = omega (arith, rising-up places turn.rises from m a l) in
      omega (arith, past, mod-above place bins past (omega (arith, turn.first_turn m l, turn.in_ring)))

  -- ---- which mode's bin comes at number i of the list: of the one from the first past the last bin on, or after the last mode of one before it
  at : (i : ℕ) → i < length places → get_or rotated i 0 ≡ bin (get_or places ((from + i) % length places) 0)
  at i l = map_at bin (drop from places ++ take from places) i 0 0 (omega (arith, turned-length places from within)) ∙ ap bin (turned-at places from within i 0 l)

  at_first : (i m : ℕ) → i < length places → from + i ≡ m → m < length places → get_or rotated i 0 ≡ bin (get_or places m 0)
  at_first i m l e k = at i l ∙ ap (λ (z : ℕ). bin (get_or places z 0)) (mod_below (from + i) (length places) (omega arith) ∙ e)

  at-later : (i m : ℕ) → i < length places → from + i ≡ length places + m → get_or rotated i 0 ≡ bin (get_or places m 0)
  at-later i m l e = at i l ∙ ap (λ (z : ℕ). bin (get_or places z 0)) (mod-above (from + i) (length places) (omega arith) (omega (arith, within)) ∙ omega arith)

  -- ---- the list
  pub rotated-length : length rotated ≡ length places
  rotated-length = length-map (drop from places ++ take from places) bin ∙ turned-length places from within

  pub rotated-rises : Rising rotated
  rotated-rises i l =
      let n = length places in
      let k : suc i < n = omega (arith, rotated-length) in
      by_order (from + suc i) n
      (λ a. omega (
        arith,
        at_first i (from + i) (omega arith) refl (omega arith),
        at_first (suc i) (suc (from + i)) k (omega arith) (omega arith),
        bin-after (from + i) (omega arith) (omega arith),
        bin-after (suc (from + i)) (omega arith) (omega arith),
        turn.rises (from + i) (omega arith),
      ))
      (λ a.
      let m = from + suc i - n in
      let here : m < from = omega (arith, within) in
      let next = at-later (suc i) m k (omega arith) in
      by_order (from + i) n
      (λ b. omega (
        arith,
        at_first i (from + i) (omega arith) refl b,
        next,
        bin-after (from + i) (omega arith) b,
        bin-before m here,
        turn.first_turn (from + i) b,
      ))
      (λ b.
      let z : suc (m - 1) ≡ m = omega arith in
      omega (
        arith,
        at-later i (m - 1) (omega arith) (omega arith),
        next,
        bin-before (m - 1) (omega arith),
        bin-before m here,
        ap (λ (j : ℕ). get_or places j 0) z,
        turn.rises (m - 1) (omega (arith, within)),
      )))

  pub rotated-same : (b : ℕ) → contains (map bin places) b ≡ contains rotated b
  rotated-same b =
      let front = take from places in
      let rear = drop from places in
      ap (λ (xs : List ℕ). contains (map bin xs) b) (sym (take-append-drop from places))
      ∙ ap (λ (xs : List ℕ). contains xs b) (map-append bin front rear)
      ∙ contains-turned (map bin front) (map bin rear) b
      ∙ ap (λ (xs : List ℕ). contains xs b) (sym (map-append bin rear front))

  -- so it has the bins at these places, from the lowest up
  pub rotated-is : filter (contains (map bin places)) (numbers 0 bins) ≡ rotated
  rotated-is =
      rising-of rotated (map bin places) bins rotated-same rotated-rises
      (λ i l. omega (arith, at i (omega (arith, rotated-length)), mod-lt (opening + get_or places ((from + i) % length places) 0) {m = bins} (omega (arith, turn.in_ring))))
