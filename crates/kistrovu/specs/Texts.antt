-- What the code answers and prints for the text of a swatch. No public promise cites it. Assumes nothing.
use Rattle.std.specs.Prelude.{ℕ, ◌≡◌, cond, List, [], ltb, pos, length, Result}
use Rattle.std.specs.Result.{result_unwrap_or}
use Rattle.lists.specs.Lists.{over}
use Rattle.palette.specs.Cards.{pixels_of, entries, most_entries}
use Rattle.palette.specs.Sound.{SoundCard}
use Rattle.swatch.specs.Input.{bytes_of}
use Rattle.swatch.specs.Output.{printed_card}
use Rattle.grounds.specs.Grounds.{program_closeness, text_number}
use Rattle.kistrovu.specs.Answers.{printed}
use Rattle.kistrovu.specs.Facts.{IfServed}
use Rattle.grounds.specs.declared.Ground.{Ground}
use Rattle.grounds.specs.Checks.{number_of}

-- the text gets this number, and this list is written
pub record Prints (number : ℕ) (list before after : List ℕ) (r : Result ℕ Ground) : Type 0 where
  pub numbered : number_of r ≡ number
  pub long : result_unwrap_or r 0 ≡ length list
  pub written : after ≡ over list before

-- for pixels: the number 11, or the card
abbrev pub PixelsPrinted : List ℕ → List ℕ → List ℕ → Result ℕ Ground → Type 0
PixelsPrinted bytes before after r =
    let ps = pixels_of bytes in
    let es = entries (pos program_closeness) ps in
    let many = ltb most_entries (length es) in
    Prints (cond many 11 0) (cond many [] (printed_card (length ps) program_closeness es)) before after r
    × SoundCard (pos program_closeness) ps

abbrev pub TextPrinted : List ℕ → List ℕ → List ℕ → Result ℕ Ground → Type 0
TextPrinted text before after r =
    Prints (text_number text) (printed text) before after r × IfServed (text_number text) (SoundCard (pos program_closeness) (pixels_of (bytes_of text)))
