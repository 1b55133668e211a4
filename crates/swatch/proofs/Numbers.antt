-- Which number a text gets, ground by ground, and the reading with that number. Assumes nothing.
use Prim.Native.Nat.{ℕ, ◌*◌, ◌≤◌, ◌<◌}
use mathlib.Core.Path.{◌≡◌, refl}
use mathlib.Core.Bool.{Bool, true, false, cond, or-true}
use mathlib.Core.List.{List}
use mathlib.Core.Option.{none, some}
use native.Mathlib.Omega.{arith}
use borrow.Author.Tests.{lt-ltb, le-ltb, ltb-false, ne_eqb, eqb-false}
use lib.Dec.{ltb, eqb}
use lib.ListN.{get_or}
use Rattle.lists.specs.Lists.{missing}
use Rattle.lists.proofs.Connectives.{both_false}
use Rattle.swatch.specs.Input.{header_of, size_of, pixel_bytes}
use Rattle.swatch.specs.Reading.{most_swatch_pixels, bad_size, swatch_number, reading_number, reading_of, ReadingNumbered}
use Rattle.std.specs.Prelude.{Ok, Err}
use Rattle.swatch.specs.declared.Unread.TheVariants.{Header, Size, Lines}

pub size_is : (text vs : List ℕ) (w h : ℕ) → some vs ≡ header_of text → w ≡ get_or vs 0 0 → h ≡ get_or vs 1 0 → size_of text ≡ w * h
unfolding size_of
size_is text vs w h e p q = rw (← e, p, q) refl

-- ---- the size
pub size-none : (n : ℕ) → n ≡ 0 → bad_size n ≡ true
size-none n z = rw z refl

pub size-large : (n : ℕ) → most_swatch_pixels < n → bad_size n ≡ true
size-large n h = rw (lt-ltb most_swatch_pixels n h) (or-true (eqb n 0))

pub size-good : (n : ℕ) → (n ≡ 0 → ⊥) → n ≤ most_swatch_pixels → bad_size n ≡ false
size-good n h k = rw (ne_eqb n 0 h, le-ltb most_swatch_pixels n k)

pub size_fits : (n : ℕ) → bad_size n ≡ false → (1 ≤ n) × (n ≤ most_swatch_pixels)
size_fits n e =
    let p = both_false (eqb n 0) (ltb most_swatch_pixels n) e in
    (omega (arith, eqb-false n 0 p.0), ltb-false most_swatch_pixels n p.1)

-- ---- the number
pub number-sized : (text vs : List ℕ) → header_of text ≡ some vs → swatch_number text ≡ cond (bad_size (size_of text)) 2 (cond (missing (pixel_bytes text)) 3 0)
unfolding swatch_number
number-sized text vs e = rw e

-- ---- the answer
pub reading-headless : (text : List ℕ) → none ≡ header_of text → Err Header ≡ reading_of text
unfolding reading_of
reading-headless text e = rw (← e) refl

pub reading-sizeless : (text vs : List ℕ) → some vs ≡ header_of text → bad_size (size_of text) ≡ true → Err Size ≡ reading_of text
unfolding reading_of
reading-sizeless text vs e b = rw (← e, b) refl

pub reading-lineless : (text vs : List ℕ) → some vs ≡ header_of text → bad_size (size_of text) ≡ false → none ≡ pixel_bytes text → Err Lines ≡ reading_of text
unfolding reading_of
reading-lineless text vs e b p = rw (← e, b, ← p) refl

pub reading-whole : (text vs bs : List ℕ) → some vs ≡ header_of text → bad_size (size_of text) ≡ false → some bs ≡ pixel_bytes text → Ok (size_of text) ≡ reading_of text
unfolding reading_of
reading-whole text vs bs e b p = rw (← e, b, ← p) refl

pub reading-numbered : ReadingNumbered
unfolding reading_of swatch_number
reading-numbered text = go (missing (header_of text)) (bad_size (size_of text)) (missing (pixel_bytes text))
  where
    go : (a b c : Bool) → reading_number (cond a (Err Header) (cond b (Err Size) (cond c (Err Lines) (Ok (size_of text))))) ≡ cond a 1 (cond b 2 (cond c 3 0))
    go true b c = refl
    go false true c = refl
    go false false true = refl
    go false false false = refl
