-- Laws of fields, column by column: the spaces, the digits, the whole field; and no column of a field is a line feed. Assumes nothing.
use Prim.Native.Nat.{ℕ, zero, suc, ◌+◌, ◌*◌, ◌-◌, ◌≤◌, ◌<◌, ◌^◌}
use mathlib.Core.Path.{◌≡◌, refl, ap, ◌∙◌}
use mathlib.Core.Bool.{Bool, true, false, cond, ◌&&◌}
use mathlib.Core.List.{List, [], ◌∷◌, ◌++◌, map}
use mathlib.Core.Option.{Option, none, some}
use native.Mathlib.Omega.{arith}
use native.Mathlib.Nat.{pow-suc}
use native.Mathlib.Numerals.{add-one}
use borrow.Author.Tests.{eqb-true, leb-true, lt-ltb, le-ltb, eq-eqb, ne_eqb}
use lib.Dec.{leb, ltb, eqb}
use lib.ListN.{length, take, drop, get_or, drop_of_length-le}
use lib.Seq.{take_all, drop-cons, drop-drop, take-add}
use Rattle.lists.specs.Lists.{all, maybe, whole}
use Rattle.lists.proofs.Cases.{by_cond}
use Rattle.lists.proofs.Connectives.{both_true}
use Rattle.lists.proofs.Missing.{cond-some, cond-other, whole-some, tested, whole-tested}
use Rattle.swatch.specs.Input.{line_feed, space, digit_zero, after_spaces, is_digit, decimal, numeral, field, pieces, fields_of, pixel_line}
use Rattle.swatch.specs.Reading.{colour_field}

-- ---- spaces
pub spaces-none : (cs : List ℕ) → length cs < 1 → after_spaces cs ≡ cs
unfolding after_spaces
spaces-none [] h = refl
spaces-none (c ∷ cs) h = absurd (omega arith)

pub spaces-end : (cs : List ℕ) → 1 ≤ length cs → (get_or cs 0 0 ≡ space → ⊥) → after_spaces cs ≡ cs
unfolding after_spaces
spaces-end [] h e = refl
spaces-end (c ∷ cs) h e = rw (ne_eqb c space e) refl

-- the columns left, which the code takes as the last n
pub spaces-more : (cs : List ℕ) (n : ℕ) → n ≡ length cs - 1 → 1 ≤ length cs → get_or cs 0 0 ≡ space → after_spaces (take n (drop 1 cs)) ≡ after_spaces cs
unfolding after_spaces
spaces-more [] n k h e = absurd (omega arith)
spaces-more (c ∷ cs) n k h e = ap after_spaces (take_all n cs (omega arith)) ∙ rw (eq-eqb c space e) refl

pub spaces-shorter : (cs : List ℕ) → length (after_spaces cs) ≤ length cs
unfolding after_spaces
spaces-shorter [] = omega arith
spaces-shorter (c ∷ cs) = by_cond (λ xs. length xs ≤ suc (length cs)) (eqb c space) (after_spaces cs) (c ∷ cs) (λ e. omega (arith, spaces-shorter cs)) (λ e. omega arith)

-- ---- digits
pub digit-range : (c : ℕ) → is_digit c ≡ true → (digit_zero ≤ c) × (c ≤ digit_zero + 9)
digit-range c e = let p = both_true (leb digit_zero c) (leb c (digit_zero + 9)) e in (leb-true digit_zero c p.0, leb-true c (digit_zero + 9) p.1)

pub digits_more : (v : ℕ) (cs : List ℕ) (i : ℕ) → i < length cs → is_digit (get_or cs i 0) ≡ true → decimal v (drop i cs) ≡ decimal (10 * v + (get_or cs i 0 - digit_zero)) (drop (i + 1) cs)
unfolding decimal
digits_more v cs i h e = rw (drop-cons cs i 0 h, add-one, e)

pub digits-end : (v : ℕ) (cs : List ℕ) (i : ℕ) → i < length cs → is_digit (get_or cs i 0) ≡ false → decimal v (drop i cs) ≡ none
unfolding decimal
digits-end v cs i h e = rw (drop-cons cs i 0 h, e)

pub digits-all : (v : ℕ) (cs : List ℕ) (i : ℕ) → length cs ≤ i → decimal v (drop i cs) ≡ some v
unfolding decimal
digits-all v cs i h = rw (drop_of_length-le cs h)

pub digits-grow : (v d i : ℕ) → v < 10 ^ i → d ≤ 9 → 10 * v + d < 10 ^ (i + 1)
digits-grow v d i h k = rw add-one (omega (arith, pow-suc 10 i))

-- ---- numerals
pub numeral-none : (cs : List ℕ) → length cs < 1 → numeral cs ≡ none
unfolding numeral
numeral-none [] h = refl
numeral-none (c ∷ cs) h = absurd (omega arith)

pub numeral-leading : (cs : List ℕ) → 2 ≤ length cs → get_or cs 0 0 ≡ digit_zero → numeral cs ≡ none
unfolding numeral
numeral-leading [] h e = refl
numeral-leading (c ∷ cs) h e = rw (eq-eqb c digit_zero e, lt-ltb 0 (length cs) (omega arith)) refl

pub numeral-plain : (cs : List ℕ) → 1 ≤ length cs → (get_or cs 0 0 ≡ digit_zero → length cs < 2) → numeral cs ≡ decimal 0 cs
unfolding numeral
numeral-plain [] h e = absurd (omega arith)
numeral-plain (c ∷ cs) h e = go (eqb c digit_zero) refl
  where
    go : (t : Bool) → eqb c digit_zero ≡ t → cond (t && ltb 0 (length cs)) none (decimal 0 (c ∷ cs)) ≡ decimal 0 (c ∷ cs)
    go true q = rw (le-ltb 0 (length cs) (omega (arith, e (eqb-true c digit_zero q)))) refl
    go false q = refl

-- ---- no line feeds
abbrev pub Clear : List ℕ → Type 0
Clear [] = Unit {0}
Clear (c ∷ cs) = (eqb c line_feed ≡ false) × Clear cs

pub clear-append : (xs ys : List ℕ) → Clear xs → Clear ys → Clear (xs ++ ys)
clear-append [] ys a b = b
clear-append (x ∷ xs) ys a b = (a.0, clear-append xs ys a.1 b)

clear-spaces : (cs : List ℕ) → Clear (after_spaces cs) → Clear cs
unfolding after_spaces
clear-spaces [] h = tt
clear-spaces (c ∷ cs) h = go (eqb c space) refl (clear-spaces cs) h
  where
    go : (t : Bool) → eqb c space ≡ t → (Clear (after_spaces cs) → Clear cs) → Clear (cond t (after_spaces cs) (c ∷ cs)) → Clear (c ∷ cs)
    go true e rest k = (ne_eqb c line_feed (λ z. omega (arith, eqb-true c space e)), rest k)
    go false e rest k = k

clear-decimal : (v u : ℕ) (cs : List ℕ) → decimal v cs ≡ some u → Clear cs
unfolding decimal
clear-decimal v u [] e = tt
clear-decimal v u (c ∷ cs) e =
    let p = cond-some (is_digit c) _ u e in
    (ne_eqb c line_feed (λ z. omega (arith, digit-range c p.0)), clear-decimal (10 * v + (c - digit_zero)) u cs p.1)

clear-numeral : (u : ℕ) (cs : List ℕ) → numeral cs ≡ some u → Clear cs
unfolding numeral
clear-numeral u [] e = tt
clear-numeral u (c ∷ cs) e = clear-decimal 0 u (c ∷ cs) (cond-other (eqb c digit_zero && ltb 0 (length cs)) _ u e)

clear-field : (u : ℕ) (cs : List ℕ) → field cs ≡ some u → Clear cs
unfolding field
clear-field u cs e = clear-spaces cs (clear-numeral u (after_spaces cs) e)

-- of n fields of w columns each
pub clear-fields : (w n : ℕ) (cs vs : List ℕ) → whole (map field (pieces w n cs)) ≡ some vs → Clear (take (n * w) cs)
unfolding pieces
clear-fields w zero cs vs e = let z : 0 * w ≡ 0 = omega arith in rw z tt
clear-fields w (suc n) cs vs e =
    let p = whole-some (field (take w cs)) (map field (pieces w n (drop w cs))) vs e in
    let z : suc n * w ≡ w + n * w = omega arith in
    rw (z, take-add w (n * w) cs) (clear-append (take w cs) (take (n * w) (drop w cs)) (clear-field p.0.0 (take w cs) p.0.1) (clear-fields w n (drop w cs) p.1.0 p.1.1))

-- ---- the fields of a line, out of its columns
pub header-fields : (line : List ℕ) → length line ≡ 13
    → fields_of 6 2 line ≡ cond (eqb (get_or line 12 0) line_feed) (whole (field (take 6 line) ∷ field (take 6 (drop 6 line)) ∷ [])) none
unfolding fields_of pieces
header-fields line h = rw (eq-eqb (length line) 13 h) refl

pub pixel-line-fields : (line : List ℕ) → length line ≡ 13
    → pixel_line line ≡ cond (eqb (get_or line 12 0) line_feed) (whole (colour_field (take 4 line) ∷ colour_field (take 4 (drop 4 line)) ∷ colour_field (take 4 (drop 8 line)) ∷ [])) none
unfolding pixel_line fields_of pieces colour_field
pixel-line-fields line h = rw (eq-eqb (length line) 13 h, ← drop-drop 4 4 line) (go (eqb (get_or line 12 0) line_feed))
  where
    columns : List (Option ℕ)
    columns = field (take 4 line) ∷ field (take 4 (drop 4 line)) ∷ field (take 4 (drop 4 (drop 4 line))) ∷ []

    go : (e : Bool) → maybe none (λ vs. cond (all (λ v. leb v 255) vs) (some vs) none) (cond e (whole columns) none) ≡ cond e (whole (map (tested (λ v. leb v 255)) columns)) none
    go false = refl
    go true = whole-tested (λ v. leb v 255) columns
