-- What the card call answers and leaves, by its number, and what a widening leaves; making a card twice gives the same card. Assumes nothing.
use Prim.Native.Nat.{ℕ, ◌*◌, ◌-◌, ◌/◌, ◌%◌, ◌≤◌, ◌<◌}
use mathlib.Core.Path.{◌≡◌, refl, sym, ap, ◌∙◌}
use mathlib.Core.List.{List, [], ◌∷◌}
use lib.Dec.{eqb, ltb}
use lib.ListN.{length, take, get_or, replicate, get_or-append, length-append, length-replicate}
use lib.Seq.{take-append_seam}
use native.Mathlib.Omega.{arith}
use native.Mathlib.Nat.{div-add-mod}
use borrow.Author.Tests.{ltb-false, eqb-true, ne_eqb, lt-ltb, le-ltb, lt-leb, le-leb}
use Rattle.lists.proofs.Connectives.{both_false, was-true}
use Rattle.lists.specs.Lists.{padded}
use Rattle.pixel.specs.declared.Pixel.{Pixel}
use Rattle.verdict.specs.Test.{Closeness}
use Rattle.verdict.specs.Settings.{Offered}
use Rattle.palette.specs.declared.Entry.{Entry}
use Rattle.palette.specs.Cards.{pixels_of, entries, labels, most_entries, no_entry}
use Rattle.palette.specs.Sound.{most_pixels, entry_at, SoundCard}
use Rattle.palette.proofs.Always.{always-sound}
use Rattle.palette.proofs.Triples.{pixels-length, pixels-bytes}
use Rattle.making.specs.Making.{card_entries, labels_left}
use Rattle.kistrovu.specs.declared.Card.{Card}
use Rattle.grounds.specs.Grounds.{first_ground, bad_bytes, many_pixels, bad_closeness, bad_labels, many_entries, asked_grounds, asked_number, card_number, widen_number}
use Rattle.kistrovu.specs.Answers.{served_entries, card_answer, label_list, widened_list}
use Rattle.kistrovu.specs.Facts.{SoundAnswer, CardAgain}
use Rattle.grounds.proofs.Served.{closeness-offered, ground-none, grounds-served, grounds-turned-down}

abbrev pub made : ℕ → ℕ → List Entry → Card
made n len es = record { number = n; len = len; entries = es }

-- ---- the grounds that are asked before the entries are found
pub record Asked (e : Closeness) (bytes : List ℕ) (places : ℕ) : Type 0 where
  pub threes : length bytes ≡ 3 * places
  pub few : places ≤ most_pixels
  pub close : Offered e

module _ (e : Closeness) (bytes : List ℕ) (places : ℕ) where
  pub card-turned-down : ¬ (asked_number e bytes places ≡ 0) → card_number e bytes places ≡ asked_number e bytes places
  unfolding asked_number card_number
  card-turned-down n = grounds-turned-down (asked_grounds e bytes places) (many_entries most_entries e bytes ∷ []) n

  pub card-asked : asked_number e bytes places ≡ 0 → card_number e bytes places ≡ first_ground (many_entries most_entries e bytes ∷ [])
  unfolding asked_number card_number
  card-asked z = grounds-served (asked_grounds e bytes places) (many_entries most_entries e bytes ∷ []) (omega arith, (omega arith, (omega arith, (omega arith, tt)))) z

  pub asked-none : asked_number e bytes places ≡ 0 → Asked e bytes places
  unfolding asked_number
  asked-none z =
      let nine = bad_labels (length bytes / 3) places in
      let a = ground-none (bad_bytes bytes) (many_pixels bytes ∷ bad_closeness e ∷ nine ∷ []) (omega arith) z in
      let b = ground-none (many_pixels bytes) (bad_closeness e ∷ nine ∷ []) (omega arith) a.1 in
      let c = ground-none (bad_closeness e) (nine ∷ []) (omega arith) b.1 in
      let d = ground-none nine [] (omega arith) c.1 in
      let rest = ltb-false 0 (length bytes % 3) (both_false (eqb (length bytes) 0) (ltb 0 (length bytes % 3)) a.0).1 in
      let same : places ≡ length bytes / 3 = eqb-true places (length bytes / 3) (was-true (eqb places (length bytes / 3)) d.0) in
      record {
        threes = omega (arith, div-add-mod (length bytes) 3, rest, same);
        few = omega (arith, same, ltb-false most_pixels (length bytes / 3) b.0);
        close = closeness-offered e c.0;
      }

-- ---- the answer and the labels, by the number
module _ (e : Closeness) (bytes lent : List ℕ) (n : ℕ) (is : n ≡ card_number e bytes (length lent)) where
  pub card-refused : ¬ (n ≡ 0) → made n 0 (padded most_entries no_entry []) ≡ card_answer e bytes (length lent)
  unfolding card_answer served_entries
  card-refused some = rw (sym is, ne_eqb n 0 some) refl

  pub labels-as-lent : ¬ (n ≡ 0) → lent ≡ label_list e bytes lent
  unfolding label_list
  labels-as-lent some = rw (sym is, ne_eqb n 0 some) refl

  pub card-served : n ≡ 0 → made 0 (length (entries e (pixels_of bytes))) (padded most_entries no_entry (entries e (pixels_of bytes))) ≡ card_answer e bytes (length lent)
  unfolding card_answer served_entries
  card-served z = rw (sym is, z) refl

  pub labels-served : n ≡ 0 → labels e (pixels_of bytes) ≡ label_list e bytes lent
  unfolding label_list
  labels-served z = rw (sym is, z) refl

-- ---- the labels as a widening leaves them, by its number
module _ (narrow lent : List ℕ) (n : ℕ) (is : n ≡ widen_number narrow (length lent)) where
  pub widened-served : n ≡ 0 → narrow ≡ widened_list narrow lent
  unfolding widened_list
  widened-served z = rw (sym is, z) refl

  pub widened-as-lent : ¬ (n ≡ 0) → lent ≡ widened_list narrow lent
  unfolding widened_list
  widened-as-lent some = rw (sym is, ne_eqb n 0 some) refl

-- ---- more entries than a card may hold, or not
module _ (e : Closeness) (bytes : List ℕ) (places total : ℕ) (none : asked_number e bytes places ≡ 0) (is : total ≡ length (entries e (pixels_of bytes))) where
  pub many-number : most_entries < total → 11 ≡ card_number e bytes places
  unfolding first_ground
  many-number l = sym (card-asked e bytes places none ∙ rw (sym is, lt-ltb most_entries total l) refl)

  pub few-number : total ≤ most_entries → 0 ≡ card_number e bytes places
  unfolding first_ground
  few-number l = sym (card-asked e bytes places none ∙ rw (sym is, le-ltb most_entries total l) refl)

  pub many-entries : most_entries < total → (card_entries e (pixels_of bytes)).entries ≡ padded most_entries no_entry []
  unfolding card_entries
  many-entries l = rw (sym is, lt-leb total most_entries l) refl

  pub few-entries : total ≤ most_entries → (card_entries e (pixels_of bytes)).entries ≡ padded most_entries no_entry (entries e (pixels_of bytes))
  unfolding card_entries
  few-entries l = rw (sym is, le-leb total most_entries l) refl

  pub many-left : most_entries < total → (lent : List ℕ) → labels_left e (pixels_of bytes) lent ≡ lent
  unfolding labels_left
  many-left l lent = rw (sym is, lt-leb total most_entries l) refl

  pub few-left : total ≤ most_entries → (lent : List ℕ) → labels_left e (pixels_of bytes) lent ≡ labels e (pixels_of bytes)
  unfolding labels_left
  few-left l lent = rw (sym is, le-leb total most_entries l) refl

pub card-again : CardAgain
unfolding label_list
card-again e bytes before before' same =
    (ap (card_answer e bytes) same, λ z. let y : card_number e bytes (length before') ≡ 0 = sym (ap (card_number e bytes) same) ∙ z in rw (z, y) refl)

pub total-is : (e : Closeness) (ps : List Pixel) → (card_entries e ps).total ≡ length (entries e ps)
unfolding card_entries
total-is e ps = refl

-- D3 of an image that no ground before the entries turns down
pub card-sound : (e : Closeness) (bytes : List ℕ) (places : ℕ) → ((j : ℕ) → get_or bytes j 0 < 256) → Asked e bytes places → SoundCard e (pixels_of bytes)
card-sound e bytes places byte a =
    always-sound e (pixels_of bytes) (omega (arith, pixels-length bytes places a.threes, a.few)) (λ i l. pixels-bytes bytes byte i)

-- ---- the entries of a card, out of its places: one, and all
entry-padded : (n : ℕ) (es : List Entry) (k : ℕ) → k < length es → entry_at (padded n no_entry es) k ≡ entry_at es k
unfolding padded
entry-padded n es k l = get_or-append es _ no_entry k l

pub take-padded : (n : ℕ) (es : List Entry) → take (length es) (padded n no_entry es) ≡ es
unfolding padded
take-padded n es = take-append_seam es _

-- demand D3 of the card handed back, as it is made, and by what the call knows of it
as-made : (e : Closeness) (bytes : List ℕ) → SoundCard e (pixels_of bytes)
    → SoundAnswer e bytes (made 0 (length (entries e (pixels_of bytes))) (padded most_entries no_entry (entries e (pixels_of bytes)))) (labels e (pixels_of bytes))
as-made e bytes s =
    let es = entries e (pixels_of bytes) in
    let held = entry-padded most_entries es in
    record {
      greys = s.greys;
      colours = s.colours;
      labelled = s.labelled;
      pixels = λ i l.
          let p = s.pixels i (omega (arith, s.labelled)) in
          record {
            one = record {
              number = p.one.number;
              in_range = p.one.in_range;
              passes = rw (held p.one.number p.one.in_range) p.one.passes;
              only = λ m k t. p.one.only m k (rw (held m k) at t);
            };
            label = p.label;
          };
      counts = λ n l. rw (held n l) (s.counts n l);
      none_empty = λ n l. rw (held n l) (s.none_empty n l);
      every_pixel = rw (take-padded most_entries es) (s.every_pixel ∙ sym s.labelled);
    }

pub handed-sound : (e : Closeness) (bytes : List ℕ) (len : ℕ) (es : List Entry) (ls : List ℕ) → len ≡ length (entries e (pixels_of bytes))
    → es ≡ padded most_entries no_entry (entries e (pixels_of bytes)) → ls ≡ labels e (pixels_of bytes) → SoundCard e (pixels_of bytes) → SoundAnswer e bytes (made 0 len es) ls
handed-sound e bytes len es ls n q l s = rw (n, q, l) (as-made e bytes s)

-- ---- as many places as are asked for
pub padded-length : {A : Type 0} (n : ℕ) (z : A) (xs : List A) → length xs ≤ n → length (padded n z xs) ≡ n
unfolding padded
padded-length n z xs few = length-append xs (replicate (n - length xs) z) ∙ omega (arith, length-replicate (n - length xs) z)
