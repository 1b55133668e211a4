-- What the text call answers and prints, from reading the text and from the card of its pixels; long texts, and room for what is printed. Assumes nothing.
use Prim.Native.Nat.{ℕ, zero, suc, ◌≤◌}
use mathlib.Core.Path.{◌≡◌, refl, sym, ap, ◌∙◌}
use mathlib.Core.Bool.{Bool, true, false, cond}
use mathlib.Core.List.{List, []}
use lib.Dec.{eqb, ltb, eqb-suc-zero}
use lib.IntN.{pos}
use lib.ListN.{length, take}
use native.Mathlib.Omega.{arith}
use borrow.Author.Tests.{ltb-false, eqb-true, ne_eqb, le-leb}
use Rattle.pixel.specs.declared.Pixel.{Pixel}
use Rattle.verdict.specs.Test.{Closeness}
use Rattle.lists.specs.Lists.{missing, over}
use Rattle.lists.proofs.Cases.{by_cond}
use Rattle.lists.proofs.Connectives.{both_false}
use Rattle.making.specs.declared.CardEntries.{CardEntries}
use Rattle.making.specs.Making.{card_entries}
use Rattle.palette.specs.Cards.{pixels_of, entries, most_entries}
use Rattle.swatch.specs.Input.{header_of, size_of, pixel_bytes, bytes_of}
use Rattle.swatch.specs.Reading.{most_swatch_pixels, bad_size, swatch_number, unread_number, reading_number, reading_of, longest_swatch}
use Rattle.swatch.proofs.Numbers.{reading-numbered}
use Rattle.swatch.specs.Output.{printed_card, printed_most}
use Rattle.swatch.proofs.PrintedLengths.{printed-fits}
use Rattle.swatch.specs.Written.{written_swatch}
use Rattle.swatch.proofs.Long.{long-text}
use Rattle.swatch.proofs.SwatchRead.{swatch-read}
use Rattle.std.specs.Prelude.{Result, Ok, Err}
use Rattle.swatch.specs.declared.Unread.{Unread}
use Rattle.swatch.specs.declared.Unread.TheVariants.{Header, Size, Lines}
use Rattle.grounds.specs.declared.Ground.{Ground}
use Rattle.grounds.specs.Checks.{ground_number, ground_of}
use Rattle.grounds.proofs.Checks.{ground-some}
use Rattle.grounds.specs.Grounds.{first_ground, program_closeness, text_number}
use Rattle.kistrovu.specs.Answers.{printed, printed_bytes, printed_answer}
use Rattle.kistrovu.specs.Facts.{LongText, PrintedFits, WrittenServed}
use Rattle.kistrovu.specs.Texts.{PixelsPrinted, TextPrinted}
use Rattle.kistrovu.proofs.Cards.{take-padded}

-- ---- the number of a text
many : List ℕ → Bool
many text = ltb most_entries (length (entries (pos program_closeness) (pixels_of (bytes_of text))))

text-number : (text : List ℕ) → text_number text ≡ cond (eqb (swatch_number text) 0) (cond (many text) 11 0) (swatch_number text)
unfolding text_number first_ground swatch_number many
text-number text = go (missing (header_of text)) (bad_size (size_of text)) (missing (pixel_bytes text)) (ltb most_entries (length (entries (pos program_closeness) (pixels_of (bytes_of text)))))
  where
    go : (a b c d : Bool) → ◌≡◌ {A = ℕ} (cond a 1 (cond b 2 (cond c 3 (cond d 11 0))))
        (cond (eqb (cond a 1 (cond b 2 (cond c 3 0))) 0) (cond d 11 0) (cond a 1 (cond b 2 (cond c 3 0))))
    go true b c d = refl
    go false true c d = refl
    go false false true d = refl
    go false false false d = refl

pub swatch-few : (text : List ℕ) → swatch_number text ≡ 0 → size_of text ≤ most_swatch_pixels
unfolding swatch_number
swatch-few text z = go (missing (header_of text)) (bad_size (size_of text)) (missing (pixel_bytes text)) refl z
  where
    go : (a b c : Bool) → bad_size (size_of text) ≡ b → ◌≡◌ {A = ℕ} (cond a 1 (cond b 2 (cond c 3 0))) 0 → size_of text ≤ most_swatch_pixels
    go true b c q y = absurd (omega (arith, y))
    go false true c q y = absurd (omega (arith, y))
    go false false true q y = absurd (omega (arith, y))
    go false false false q y = ltb-false most_swatch_pixels (size_of text) (both_false (eqb (size_of text) 0) (ltb most_swatch_pixels (size_of text)) q).1

-- the ground of a text that reading turns down has its number
pub unread-number : (text : List ℕ) (why : Unread) → Err why ≡ reading_of text → ground_number (ground_of why) ≡ swatch_number text
unread-number text why e = go why ∙ ap reading_number e ∙ reading-numbered text
  where
    go : (u : Unread) → ground_number (ground_of u) ≡ unread_number u
    go Header = refl
    go Size = refl
    go Lines = refl

-- a text that is read has as many pixels as its size says
pub read-served : (text : List ℕ) (n : ℕ) → Ok n ≡ reading_of text → (swatch_number text ≡ 0) × (n ≤ most_swatch_pixels)
unfolding reading_of
read-served text n e =
    let z : swatch_number text ≡ 0 = sym (ap reading_number e ∙ reading-numbered text) in
    let few = swatch-few text z in
    (z, omega (arith, go (missing (header_of text)) (bad_size (size_of text)) (missing (pixel_bytes text)) e, few))
  where
    go : (a b c : Bool) → Ok n ≡ cond a (Err Header) (cond b (Err Size) (cond c (Err Lines) (Ok (size_of text)))) → n ≡ size_of text
    go true b c q = cc
    go false true c q = cc
    go false false true q = cc
    go false false false q = cc

-- ---- what is printed
-- nothing, and the buffer stays, where the reading of the text turns it down
pub text-refused : (text buffer : List ℕ) (why : Ground) → ground_number why ≡ swatch_number text → TextPrinted text buffer buffer (Err why)
unfolding printed over
text-refused text buffer why number =
    let n = ground_number why in
    let some = ground-some why in
    let is : text_number text ≡ n = text-number text ∙ rw (sym number, ne_eqb n 0 some) refl in
    (record { numbered = sym is; long = rw (is, ne_eqb n 0 some) refl; written = rw (is, ne_eqb n 0 some) refl }, λ z. absurd (some (sym is ∙ z)))

module _ (text before after : List ℕ) (r : Result ℕ Ground) where
  pub text-made : swatch_number text ≡ 0 → PixelsPrinted (bytes_of text) before after r → TextPrinted text before after r
  unfolding printed many
  text-made z p = go (ltb most_entries (length (entries (pos program_closeness) (pixels_of (bytes_of text))))) refl
    where
      go : (t : Bool) → ltb most_entries (length (entries (pos program_closeness) (pixels_of (bytes_of text)))) ≡ t → TextPrinted text before after r
      go true q =
          let is : text_number text ≡ 11 = text-number text ∙ rw (z, q) refl in (
            record { numbered = rw is (rw q at p.0.numbered); long = rw is (rw q at p.0.long); written = rw is (rw q at p.0.written) },
            λ y. p.1,
          )
      go false q =
          let is : text_number text ≡ 0 = text-number text ∙ rw (z, q) refl in (
            record { numbered = rw is (rw q at p.0.numbered); long = rw is (rw q at p.0.long); written = rw is (rw q at p.0.written) },
            λ y. p.1,
          )

-- ---- the entries of a card, out of its places
pub entries-held : (e : Closeness) (ps : List Pixel) (m : CardEntries) → m ≡ card_entries e ps → m.total ≤ most_entries → take m.total m.entries ≡ entries e ps
unfolding card_entries
entries-held e ps m is few =
    let es = entries e ps in
    let count : m.total ≡ length es = ap (λ (x : CardEntries). x.total) is in
    let fit = le-leb (length es) most_entries (omega (arith, count)) in
    ap (λ (x : CardEntries). take x.total x.entries) is ∙ rw fit (take-padded most_entries es)

-- ---- room for what is printed
text-few : (text : List ℕ) → text_number text ≡ 0 → many text ≡ false
text-few text z = go (swatch_number text) (many text) (sym (text-number text) ∙ z)
  where
    go : (n : ℕ) (m : Bool) → ◌≡◌ {A = ℕ} (cond (eqb n 0) (cond m 11 0) n) 0 → m ≡ false
    go zero true q = absurd (omega (arith, q))
    go zero false q = refl
    go (suc n) m q = absurd (omega (arith, rw (eqb-suc-zero n) at q))

pub text-fits : PrintedFits
unfolding printed many
text-fits text =
    let ps = pixels_of (bytes_of text) in
    let es = entries (pos program_closeness) ps in
    by_cond (λ (xs : List ℕ). length xs ≤ printed_most) (eqb (text_number text) 0) (printed_card (length ps) program_closeness es) []
    (λ q. printed-fits (length ps) program_closeness es (ltb-false most_entries (length es) (text-few text (eqb-true (text_number text) 0 q))))
    (λ q. omega arith)

-- ---- a text longer than any swatch
refused-answer : (text : List ℕ) → ¬ (swatch_number text ≡ 0) → printed_answer text ≡ printed_bytes (swatch_number text) []
unfolding printed_answer printed
refused-answer text n =
    let is : text_number text ≡ swatch_number text = text-number text ∙ rw (ne_eqb (swatch_number text) 0 n) refl in
    rw (is, ne_eqb (swatch_number text) 0 n) refl

pub long-text-printed : LongText
long-text-printed text l =
    let r = long-text text l in
    let same : swatch_number (take (suc longest_swatch) text) ≡ swatch_number text = sym (reading-numbered (take (suc longest_swatch) text)) ∙ ap reading_number r.0 ∙ reading-numbered text in
    refused-answer (take (suc longest_swatch) text) (λ z. absurd (omega (arith, z, same, r.1))) ∙ ap (λ (n : ℕ). printed_bytes n []) same
    ∙ sym (refused-answer text (λ z. absurd (omega (arith, z, r.1))))

-- ---- a swatch that is written in its form
pub written-served : WrittenServed
unfolding many printed
written-served width height ps m =
    let read = swatch-read width height ps m in
    record {
      number = text-number (written_swatch width height ps) ∙ rw (read.accepted, read.pixels) refl;
      card = λ z. rw (z, read.pixels) refl;
    }
