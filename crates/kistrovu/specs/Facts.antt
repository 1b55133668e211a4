-- What holds besides the equations: for a served call (D2 and D3), for a log and its replay, for a card made twice, for a turned ring, and for the program's text. Assumes nothing.
use Rattle.std.specs.Prelude.{ℕ, suc, ◌*◌, ◌≤◌, ◌<◌, ◌≡◌, cond, List, map, ltb, eqb, ℤ, pos, length, take, get_or}
use Rattle.lists.specs.Lists.{total, count_if, contains, ExactlyOne}
use Rattle.verdict.specs.Test.{Closeness}
use Rattle.pixel.specs.declared.Pixel.{Pixel}
use Rattle.palette.specs.declared.Entry.{Entry}
use Rattle.joinlog.specs.JoinLog.{record_numbers, line_log, Departs}
use Rattle.listing.specs.Turning.{turned, turned_bin, SingleLowest, TurnsAlong}
use Rattle.palette.specs.Levels.{grey_levels, colour_levels}
use Rattle.palette.specs.Cards.{all_greys, all_colours, members, entries, most_entries, pixels_of}
use Rattle.palette.specs.Sound.{pixel_at, entry_at, counts_under, AllSound}
use Rattle.swatch.specs.Reading.{longest_swatch}
use Rattle.swatch.specs.Output.{printed_card, printed_most}
use Rattle.swatch.specs.Written.{written_swatch, MakesSwatch}
use Rattle.kistrovu.specs.declared.Card.{Card}
use Rattle.grounds.specs.Grounds.{modes_number, log_number, replay_number, card_number, program_closeness, text_number}
use Rattle.kistrovu.specs.Answers.{line_answer, line_list, ring_answer, ring_list, log_answer, log_list, replay_answer, replay_list, card_answer, label_list, printed, printed_answer}

-- D2 and D3: P holds if the call is served, that is, if its number n is 0
abbrev pub IfServed : ℕ → Type 0 → Type 0
IfServed n P = n ≡ 0 → P

-- J4, G20: of all logs a replay accepts that of the line alone. Any other leaves the method somewhere, and gets 20 where no earlier ground holds
pub record AcceptsOnly (e : Closeness) (h : List ℕ) (log : List ℤ) (places : ℕ) : Type 0 where
  pub accepted : replay_number e h log places ≡ 0 → log ≡ line_log e h
  pub accepts : modes_number e h places ≡ 0 → log ≡ line_log e h → replay_number e h log places ≡ 0
  pub departed : replay_number e h log places ≡ 20 → Departs e h log
  pub departs : modes_number e h places ≡ 0 → Departs e h log → replay_number e h log places ≡ 20

-- the log that a log call wrote: the records of as many joins as its answer says
abbrev pub written_log : Closeness → List ℕ → List ℤ → List ℤ
written_log e h list = take (record_numbers * (log_answer e h (length list)).joins) (log_list e h list)

-- J4: a replay of what a served log call wrote answers and lists as a line call does, served or turned down. Proved in proofs/Replays
abbrev pub LogReplays : Type 0
LogReplays = (e : Closeness) (h : List ℕ) (list : List ℤ) → IfServed (log_number e h (length list))
    (((places : ℕ) → replay_answer e h (written_log e h list) places ≡ line_answer e h places)
    × ((separators : List ℕ) → replay_list e h (written_log e h list) separators ≡ line_list e h separators))

-- D3 of a served card call, stated only about what it hands back: the answer r, and the labels that it leaves
module _ (e : Closeness) (bytes : List ℕ) (r : Card) (labels : List ℕ) where
  -- pixel i counts under exactly one of the entries, and bears its number
  pub record BearsItsEntry (i : ℕ) : Type 0 where
    pub one : ExactlyOne r.len (λ n. counts_under e (pixels_of bytes) (entry_at r.entries n) (pixel_at (pixels_of bytes) i))
    pub label : get_or labels i 0 ≡ one.number

  -- D3 of the whole card
  pub record SoundAnswer : Type 0 where
    -- every histogram of the card is sound: of the greys, and of the colours
    pub greys : 0 < length (members (pixels_of bytes) all_greys) → AllSound e (pixels_of bytes) grey_levels all_greys
    pub colours : 0 < length (members (pixels_of bytes) all_colours) → AllSound e (pixels_of bytes) colour_levels all_colours
    pub labelled : length labels ≡ length (pixels_of bytes)
    pub pixels : (i : ℕ) → i < length labels → BearsItsEntry i
    -- an entry's count is how many labels are its number (C8), no entry is empty, and the counts add up to the pixels
    pub counts : (n : ℕ) → n < r.len → (entry_at r.entries n).count ≡ count_if (eqb n) labels
    pub none_empty : (n : ℕ) → n < r.len → 0 < (entry_at r.entries n).count
    pub every_pixel : total (map (λ (t : Entry). t.count) (take r.len r.entries)) ≡ length labels

-- making a card twice gives the same card: what was in the label buffer before does not matter. Proved in proofs/Cards
abbrev pub CardAgain : Type 0
CardAgain = (e : Closeness) (bytes before before' : List ℕ) → length before ≡ length before'
    → (card_answer e bytes (length before) ≡ card_answer e bytes (length before'))
    × IfServed (card_number e bytes (length before)) (label_list e bytes before ≡ label_list e bytes before')

-- the separators that a ring call lists: as many of the first places of the list as its answer says
abbrev pub listed_separators : Closeness → List ℕ → List ℕ → List ℕ
listed_separators e h list = take (ring_answer e h (length list)).separators (ring_list e h list)

-- R9: the ring call on a ring turned by k bins, beside the call on the ring
pub record RingTurned (e : Closeness) (k : ℕ) (h : List ℕ) : Type 0 where
  -- with a list of as many places it is served, or turned down with the same number, and there are as many separators
  pub answer : (places : ℕ) → ring_answer e (turned k h) places ≡ ring_answer e h places
  -- if both are served, the separators listed are the turned ones, whatever the lists held and however many places they have; and the modes turn along
  pub listed : (list list' : List ℕ) → IfServed (modes_number e h (length list)) (IfServed (modes_number e (turned k h) (length list')) (
      (b : ℕ) → b < length h → contains (listed_separators e (turned k h) list') (turned_bin k h b) ≡ contains (listed_separators e h list) b))
  pub modes : (places : ℕ) → IfServed (modes_number e h places) (TurnsAlong e k h)

-- R9: of every ring with a single lowest bin. Proved in proofs/Turns
abbrev pub RingTurns : Type 0
RingTurns = (e : Closeness) (k : ℕ) (h : List ℕ) → SingleLowest h → RingTurned e k h

-- X8: a text longer than any swatch gets the same answer as its first bytes, up to the one that makes it too long. Proved in proofs/Texts
abbrev pub LongText : Type 0
LongText = (text : List ℕ) → longest_swatch < length text → printed_answer (take (suc longest_swatch) text) ≡ printed_answer text

-- there is room for everything that is printed. Proved in proofs/Texts
abbrev pub PrintedFits : Type 0
PrintedFits = (text : List ℕ) → length (printed text) ≤ printed_most

-- X3 and X4: a swatch that is written in this form is never turned down for its text, but only for too many entries (G11); otherwise its card is printed
pub record SwatchAnswered (width height : ℕ) (ps : List Pixel) : Type 0 where
  pub number : text_number (written_swatch width height ps) ≡ cond (ltb most_entries (length (entries (pos program_closeness) ps))) 11 0
  pub card : IfServed (text_number (written_swatch width height ps))
      (printed (written_swatch width height ps) ≡ printed_card (length ps) program_closeness (entries (pos program_closeness) ps))

-- proved in proofs/Texts
abbrev pub WrittenServed : Type 0
WrittenServed = (width height : ℕ) (ps : List Pixel) → MakesSwatch width height ps → SwatchAnswered width height ps
