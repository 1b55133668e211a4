-- How a text longer than any swatch is read, as `LongReading` states: its header and its size decide. Assumes nothing.
use Prim.Native.Nat.{ℕ, suc, ◌≤◌, ◌<◌}
use mathlib.Core.Path.{◌≡◌, refl, sym, ap, ◌∙◌}
use mathlib.Core.Bool.{Bool, true, false, cond}
use mathlib.Core.List.{List}
use mathlib.Core.Option.{Option, none}
use native.Mathlib.Omega.{arith}
use lib.ListN.{length, take}
use lib.Seq.{take-take, length-take-le}
use Rattle.lists.specs.Lists.{missing}
use Rattle.swatch.specs.Input.{header_of, size_of, pixel_bytes}
use Rattle.swatch.specs.Reading.{bad_size, reading_number, reading_of, longest_swatch, LongReading}
use Rattle.swatch.specs.declared.Unread.{Unread}
use Rattle.swatch.specs.declared.Unread.TheVariants.{Header, Size, Lines}
use Rattle.std.specs.Prelude.{Result, Ok, Err}
use Rattle.swatch.proofs.Lines.{header_at}
use Rattle.swatch.proofs.Rows.{bytes-none}
use Rattle.swatch.proofs.Numbers.{size_fits, reading-numbered}

-- no size is so large that all lines are pixel lines
long-none : (text : List ℕ) → longest_swatch < length text → bad_size (size_of text) ≡ false → pixel_bytes text ≡ none
unfolding longest_swatch
long-none text h e = let p = size_fits (size_of text) e in bytes-none text p.0 (λ z. omega arith)

-- the answer for such a text
abbrev long_answer : Option (List ℕ) → ℕ → Result ℕ Unread
long_answer header pixels = cond (missing header) (Err Header) (cond (bad_size pixels) (Err Size) (Err Lines))

long-answer : (text : List ℕ) → longest_swatch < length text → reading_of text ≡ long_answer (header_of text) (size_of text)
unfolding reading_of
long-answer text h = ap (λ (r : Result ℕ Unread). cond (missing (header_of text)) (Err Header) r) (go (bad_size (size_of text)) refl)
  where
    go : (t : Bool) → bad_size (size_of text) ≡ t → ◌≡◌ {A = Result ℕ Unread} (cond t (Err Size) (cond (missing (pixel_bytes text)) (Err Lines) (Ok (size_of text)))) (cond t (Err Size) (Err Lines))
    go true e = refl
    go false e = rw (long-none text h e) refl

long-positive : (header : Option (List ℕ)) (pixels : ℕ) → 0 < reading_number (long_answer header pixels)
long-positive header pixels = go (missing header) (bad_size pixels)
  where
    go : (a b : Bool) → 0 < reading_number (cond a (Err Header) (cond b (Err Size) (Err Lines)))
    go true b = omega arith
    go false true = omega arith
    go false false = omega arith

-- the header of the first bytes is that of the text
header-front : (n : ℕ) (text : List ℕ) → 13 ≤ n → header_of (take n text) ≡ header_of text
header-front n text h = header_at (take n text) ∙ rw (take-take 13 n text h) (sym (header_at text))

size-front : (n : ℕ) (text : List ℕ) → 13 ≤ n → size_of (take n text) ≡ size_of text
unfolding size_of
size-front n text h = rw (header-front n text h)

longest-header : 13 ≤ suc longest_swatch
unfolding longest_swatch
longest-header = omega arith

pub long-text : LongReading
long-text text h =
    let n : ℕ = suc longest_swatch in
    let long : length (take n text) ≡ n = length-take-le n text h in
    let header : 13 ≤ n = longest-header in (
      long-answer (take n text) (omega arith) ∙ rw (header-front n text header, size-front n text header) (sym (long-answer text h)),
      rw (← reading-numbered text, long-answer text h) (long-positive (header_of text) (size_of text)),
    )
