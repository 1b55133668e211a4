-- `print_pixels` meets its contract. Assumes nothing.
use Rattle.std.proofs.Common.{arith, refl, ℕ, List, sym, ap, ◌∙◌, ◌≡◌, ◌≤◌, ◌<◌, ◌*◌, ◌/◌, pos, length, take, get_or}
use borrow.Author.Tests.{lt-ltb, le-ltb}
use Rattle.lists.specs.Lists.{over}
use Rattle.verdict.specs.Test.{Closeness, least_closeness, most_closeness}
use Rattle.palette.specs.declared.Entry.{Entry}
use Rattle.palette.specs.Cards.{pixels_of, entries, most_entries}
use Rattle.palette.specs.Sound.{most_pixels, SoundCard}
use Rattle.palette.proofs.Always.{always-sound}
use Rattle.palette.proofs.Triples.{pixels-length, pixels-bytes}
use Rattle.making.specs.declared.CardEntries.{CardEntries}
use Rattle.making.specs.Making.{card_entries}
use Rattle.swatch.specs.Reading.{most_swatch_pixels}
use Rattle.swatch.specs.Output.{printed_card, printed_most}
use Rattle.swatch.proofs.PrintedLengths.{printed-fits}
use Rattle.grounds.specs.Grounds.{program_closeness}
use Rattle.kistrovu.proofs.Cards.{total-is}
use Rattle.kistrovu.proofs.Texts.{entries-held}
use Rattle.kistrovu.proofs.printing.print_pixels.Goals as goal

pub new-requires : goal.new-requires
unfolding least_closeness most_closeness
new-requires c = record { least = record { le = tt }; most = record { le = tt } }

sound : (bytes : List ℕ) → length bytes ≡ 3 * (length bytes / 3) → length bytes ≤ 3 * most_swatch_pixels → ((j : ℕ) → get_or bytes j 0 < 256) → SoundCard (pos 0) (pixels_of bytes)
unfolding most_pixels most_swatch_pixels
sound bytes whole few byte =
    let long = pixels-length bytes (length bytes / 3) whole in
    always-sound (pos 0) (pixels_of bytes) (omega arith) (λ i l. pixels-bytes bytes byte i)

pub returns-then-made-gt-MOST_ENTRIES : goal.returns-then-made-gt-MOST_ENTRIES
unfolding most_entries over program_closeness
returns-then-made-gt-MOST_ENTRIES c =
    let bytes = c.args.pixels.now in
    let ps = pixels_of bytes in
    let found : c.swatch_entries-made.result ≡ card_entries (pos 0) ps = c.swatch_entries-made.ensures ∙ ap (λ (e : Closeness). card_entries e ps) c.new.ensures in
    let total : c.swatch_entries-made.result.total ≡ length (entries (pos 0) ps) = ap (λ (x : CardEntries). x.total) found ∙ total-is (pos 0) ps in
    let many = lt-ltb most_entries (length (entries (pos 0) ps)) (omega (arith, total, c.if-made-gt-MOST_ENTRIES.true)) in
    (rw many (record { numbered = refl; long = refl; written = refl }), sound bytes c.requires.0 c.requires.1 (λ j. let known = c.type_inv.pixels j in omega arith))

pub overflow_cast-n : goal.overflow_cast-n
unfolding most_swatch_pixels
overflow_cast-n c = omega (arith, c.requires.1)

-- the entries of a card that has room for them
held : (bytes : List ℕ) (m : CardEntries) → m ≡ card_entries (pos 0) (pixels_of bytes) → m.total ≤ most_entries → take m.total m.entries ≡ entries (pos 0) (pixels_of bytes)
held bytes m is few = entries-held (pos 0) (pixels_of bytes) m is few

pub print_card-requires : goal.print_card-requires
unfolding most_entries
print_card-requires c =
    let bytes = c.args.pixels.now in
    let ps = pixels_of bytes in
    let found : c.swatch_entries-made.result ≡ card_entries (pos 0) ps = c.swatch_entries-made.ensures ∙ ap (λ (e : Closeness). card_entries e ps) c.new.ensures in
    let total : c.swatch_entries-made.result.total ≡ length (entries (pos 0) ps) = ap (λ (x : CardEntries). x.total) found ∙ total-is (pos 0) ps in
    (omega (arith, ap length (held bytes c.swatch_entries-made.result found c.if-made-gt-MOST_ENTRIES.false), total, c.if-made-gt-MOST_ENTRIES.false), c.requires.2)

pub overflow_cast-result : goal.overflow_cast-result
unfolding most_entries printed_most
overflow_cast-result c =
    let bytes = c.args.pixels.now in
    let ps = pixels_of bytes in
    let found : c.swatch_entries-made.result ≡ card_entries (pos 0) ps = c.swatch_entries-made.ensures ∙ ap (λ (e : Closeness). card_entries e ps) c.new.ensures in
    let total : c.swatch_entries-made.result.total ≡ length (entries (pos 0) ps) = ap (λ (x : CardEntries). x.total) found ∙ total-is (pos 0) ps in
    let es = take c.swatch_entries-made.result.total c.swatch_entries-made.result.entries in
    let few : length es ≤ most_entries = omega (arith, ap length (held bytes c.swatch_entries-made.result found c.if-made-gt-MOST_ENTRIES.false), total, c.if-made-gt-MOST_ENTRIES.false) in
    omega (arith, c.print_card.ensures.len, printed-fits (length bytes / 3) 0 es few)

pub returns : goal.returns
unfolding program_closeness most_entries
returns c =
    let bytes = c.args.pixels.now in
    let ps = pixels_of bytes in
    let found : c.swatch_entries-made.result ≡ card_entries (pos 0) ps = c.swatch_entries-made.ensures ∙ ap (λ (e : Closeness). card_entries e ps) c.new.ensures in
    let total : c.swatch_entries-made.result.total ≡ length (entries (pos 0) ps) = ap (λ (x : CardEntries). x.total) found ∙ total-is (pos 0) ps in
    let es = entries (pos 0) ps in
    let long = pixels-length bytes (length bytes / 3) c.requires.0 in
    let one = le-ltb most_entries (length es) (omega (arith, total, c.if-made-gt-MOST_ENTRIES.false)) in
    let text = ap (λ (xs : List Entry). printed_card (length bytes / 3) 0 xs) (held bytes c.swatch_entries-made.result found c.if-made-gt-MOST_ENTRIES.false) ∙ ap (λ (k : ℕ). printed_card k 0 es) (sym long) in (
      rw one (record {
        numbered = refl;
        long = c.print_card.ensures.len ∙ ap length text;
        written = c.print_card.ensures.text ∙ ap (λ (xs : List ℕ). over xs c.args.out.now) text;
      }),
      sound bytes c.requires.0 c.requires.1 (λ j. let known = c.type_inv.pixels j in omega arith),
    )
