-- A lower limit on entries changes no card and no text that keeps to it, and widening its labels gives the labels: rule C10. Assumes nothing.
use Prim.Native.Nat.{ℕ, ◌≤◌, ◌<◌, ◌^◌}
use mathlib.Core.Path.{◌≡◌, refl, sym, ap, ◌∙◌}
use mathlib.Core.Bool.{true}
use mathlib.Core.List.{List, [], map}
use lib.Dec.{eqb, ltb}
use lib.IntN.{pos}
use lib.ListN.{length, get_or, length-map}
use native.Mathlib.Omega.{arith}
use native.Mathlib.Decide.{ℕ_discrete}
use borrow.Author.Tests.{ltb-true, ltb-false, lt-ltb, eqb-true, eq-eqb}
use Rattle.lists.specs.Lists.{padded}
use Rattle.lists.proofs.Buffers.{padded-more}
use Rattle.lists.proofs.Cases.{by_cond}
use Rattle.lists.proofs.Firsts.{first-up-to}
use Rattle.lists.proofs.Flattened.{map_below}
use Rattle.verdict.specs.Test.{Closeness}
use Rattle.pixel.specs.declared.Pixel.{Pixel}
use Rattle.palette.specs.declared.Entry.{Entry}
use Rattle.palette.specs.Cards.{Branch, pixels_of, branches, entry_of, entries, label, labels, most_entries, no_entry}
use Rattle.palette.proofs.Triples.{pixels-length}
use Rattle.swatch.specs.Input.{bytes_of}
use Rattle.swatch.specs.Output.{printed_card, bytes_for, printed_most}
use Rattle.swatch.proofs.PrintedLengths.{printed-length}
use Rattle.grounds.specs.Grounds.{Ground, first_ground, many_entries, asked_grounds, asked_number, card_number, widen_number, program_closeness, read_grounds, text_number}
use Rattle.grounds.proofs.Served.{last_none, last-kept}
use Rattle.kistrovu.specs.Answers.{served, served_entries, card_answer, label_list, widened_list, printed, printed_answer}
use Rattle.kistrovu.specs.Narrow.{card_number_up_to, card_up_to, labels_up_to, text_number_up_to, printed_up_to, OwnLimit, CardAlwaysKept, TextAlwaysKept, most_byte_entries, LabelsAlwaysNarrow}
use Rattle.kistrovu.proofs.Cards.{card-turned-down, asked-none}

pub own-limit : OwnLimit
unfolding card_up_to card_number_up_to card_answer served_entries card_number labels_up_to label_list printed_up_to text_number_up_to printed_answer printed text_number printed_most
own-limit = record { card = λ e bytes places. refl; labels = λ e bytes list. refl; text = λ text. refl }

-- more entries than a limit are more than a lower one
above : (few : ℕ) → few ≤ most_entries → (n : ℕ) → ltb most_entries n ≡ true → ltb few n ≡ true
above few low n t = lt-ltb few n (omega (arith, low, ltb-true most_entries n t))

-- ---- the card call
module _ (e : Closeness) (bytes list : List ℕ) where
  abbrev found : List Entry
  found = entries e (pixels_of bytes)

  abbrev asked : List Ground
  asked = asked_grounds e bytes (length list)

  card-number-kept : (few : ℕ) → few ≤ most_entries → ¬ (card_number_up_to few e bytes (length list) ≡ 11) → card_number e bytes (length list) ≡ card_number_up_to few e bytes (length list)
  unfolding card_number_up_to card_number
  card-number-kept few low n = last-kept asked (many_entries few e bytes) (many_entries most_entries e bytes) (above few low (length found)) n

  -- a card that is served keeps to the limit
  card-few : (most : ℕ) → card_number_up_to most e bytes (length list) ≡ 0 → length found ≤ most
  unfolding card_number_up_to
  card-few most z = ltb-false most (length found) (last_none asked (many_entries most e bytes) (omega arith, (omega arith, (omega arith, (omega arith, (omega arith, tt))))) z)

  served-few : (most : ℕ) → length (served (card_number_up_to most e bytes (length list)) found []) ≤ most
  served-few most =
      by_cond (λ (xs : List Entry). length xs ≤ most) (eqb (card_number_up_to most e bytes (length list)) 0) found [] (λ q. card-few most (eqb-true _ 0 q)) (λ q. omega arith)

pub cards-kept : CardAlwaysKept
unfolding card_up_to card_answer served_entries labels_up_to label_list
cards-kept few low e bytes list n =
    let same = card-number-kept e bytes list few low n in
    record {
      number = same;
      len = ap (λ (k : ℕ). length (served k (found e bytes list) [])) same;
      entries = ap (λ (k : ℕ). padded most_entries no_entry (served k (found e bytes list) [])) same ∙ padded-more few most_entries no_entry _ (served-few e bytes list few) low;
      labels = ap (λ (k : ℕ). served k (labels e (pixels_of bytes)) list) same;
    }

-- ---- labels of one byte
-- no label is above the number of entries
label-up-to : (e : Closeness) (ps : List Pixel) (p : Pixel) → label e ps p ≤ length (entries e ps)
unfolding label entries
label-up-to e ps p = omega (arith, first-up-to (λ (b : Branch). b.has p) (branches e ps), length-map (branches e ps) (entry_of ps))

-- a served card has a place in the list for each pixel
labels-long : (e : Closeness) (bytes list : List ℕ) → card_number e bytes (length list) ≡ 0 → length (labels e (pixels_of bytes)) ≡ length list
unfolding labels
labels-long e bytes list z = go (ℕ_discrete (asked_number e bytes (length list)) 0)
  where
    go : Dec (asked_number e bytes (length list) ≡ 0) → length (map (label e (pixels_of bytes)) (pixels_of bytes)) ≡ length list
    go (yes y) = length-map (pixels_of bytes) (label e (pixels_of bytes)) ∙ pixels-length bytes (length list) (asked-none e bytes (length list) y).threes
    go (no n) = absurd (n (sym (card-turned-down e bytes (length list) n) ∙ z))

-- widened into a list of as many places, they are what the card call leaves there
labels-widened : (e : Closeness) (bytes list lent : List ℕ) → card_number e bytes (length list) ≡ 0 → length lent ≡ length list
    → widened_list (labels e (pixels_of bytes)) lent ≡ label_list e bytes lent
unfolding widened_list widen_number first_ground label_list
labels-widened e bytes list lent z same =
    let long : length lent ≡ length (labels e (pixels_of bytes)) = same ∙ sym (labels-long e bytes list z) in
    let number : card_number e bytes (length lent) ≡ 0 = ap (card_number e bytes) same ∙ z in
    rw (eq-eqb (length lent) (length (labels e (pixels_of bytes))) long, number) refl

label-byte : (e : Closeness) (bytes list : List ℕ) → card_number_up_to most_byte_entries e bytes (length list) ≡ 0 → (i : ℕ) → get_or (labels e (pixels_of bytes)) i 0 < 2 ^ 8
unfolding labels
label-byte e bytes list z i =
    let ps = pixels_of bytes in
    map_below (label e ps) (2 ^ 8) (omega arith) (λ p. omega (arith, label-up-to e ps p, card-few e bytes list most_byte_entries z)) ps i

byte-below-most : most_byte_entries ≤ most_entries
unfolding most_entries
byte-below-most = omega arith

pub labels-narrow : LabelsAlwaysNarrow
unfolding labels_up_to
labels-narrow e bytes list z =
    let kept = card-number-kept e bytes list most_byte_entries byte-below-most (λ q. absurd (omega (arith, z, q))) in
    record {
      fit = λ i. rw z (label-byte e bytes list z i);
      widened = λ lent same. rw z (labels-widened e bytes list lent (kept ∙ z) same);
    }

-- ---- the text call
module _ (text : List ℕ) where
  abbrev ps : List Pixel
  ps = pixels_of (bytes_of text)

  abbrev es : List Entry
  es = entries (pos program_closeness) ps

  abbrev card : List ℕ
  card = printed_card (length ps) program_closeness es

  text-number-kept : (few : ℕ) → few ≤ most_entries → ¬ (text_number_up_to few text ≡ 11) → text_number text ≡ text_number_up_to few text
  unfolding text_number_up_to text_number
  text-number-kept few low n = last-kept (read_grounds text) (many_entries few (pos program_closeness) (bytes_of text)) (many_entries most_entries (pos program_closeness) (bytes_of text)) (above few low (length es)) n

  text-few : (most : ℕ) → text_number_up_to most text ≡ 0 → length es ≤ most
  unfolding text_number_up_to
  text-few most z = ltb-false most (length es) (last_none (read_grounds text) (many_entries most (pos program_closeness) (bytes_of text)) (omega arith, (omega arith, (omega arith, (omega arith, tt)))) z)

  printed-few : (most : ℕ) → length (served (text_number_up_to most text) card []) ≤ bytes_for most
  printed-few most =
      by_cond (λ (xs : List ℕ). length xs ≤ bytes_for most) (eqb (text_number_up_to most text) 0) card []
      (λ q. omega (arith, printed-length (length ps) program_closeness es, text-few most (eqb-true _ 0 q)))
      (λ q. omega arith)

pub texts-kept : TextAlwaysKept
unfolding printed_up_to printed_answer printed printed_most
texts-kept few low text n =
    let same = text-number-kept text few low n in
    record {
      number = same;
      len = ap (λ (k : ℕ). length (served k (card text) [])) same;
      bytes = ap (λ (k : ℕ). padded printed_most 0 (served k (card text) [])) same ∙ padded-more (bytes_for few) printed_most 0 _ (printed-few text few) (omega (arith, low));
    }
