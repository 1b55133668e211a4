-- Laws of lines: what the first line of a text is; its fields are those of the text's first 13 bytes. Assumes nothing.
use Prim.Native.Nat.{ℕ, zero, suc, ◌*◌, ◌≤◌, ◌<◌}
use mathlib.Core.Path.{◌≡◌, refl, sym, ap, ◌∙◌}
use mathlib.Core.Bool.{Bool, true, false, cond, ◌&&◌}
use mathlib.Core.List.{List, [], ◌∷◌}
use mathlib.Core.Option.{Option, none, some}
use native.Mathlib.Omega.{arith}
use borrow.Author.Tests.{eqb-true, ne_eqb}
use lib.Dec.{eqb}
use lib.ListN.{length, take, drop, get_or, length-take}
use lib.Seq.{take-take, get_or-take, length-take-le}
use Rattle.std.specs.Array.{IsFirstChunk}
use Rattle.lists.specs.Lists.{maybe, whole}
use Rattle.lists.proofs.Connectives.{both_true}
use Rattle.lists.proofs.Missing.{cond-some, maybe-some}
use Rattle.swatch.specs.Input.{line_feed, in_front, lines_of, field, fields_of, header_of, size_of, pixel_line}
use Rattle.swatch.proofs.Fields.{Clear, clear-fields, header-fields}

abbrev pub first_line : List ℕ → List ℕ
first_line text = get_or (lines_of text) 0 []

-- it is the front of the text
first-front : (text : List ℕ) → take (length (first_line text)) text ≡ first_line text
unfolding lines_of
first-front [] = refl
first-front (c ∷ cs) = go (eqb c line_feed) (lines_of cs) (first-front cs)
  where
    go : (t : Bool) (rest : List (List ℕ)) → take (length (get_or rest 0 [])) cs ≡ get_or rest 0 []
        → take (length (get_or (cond t ((c ∷ []) ∷ rest) (in_front c rest)) 0 [])) (c ∷ cs) ≡ get_or (cond t ((c ∷ []) ∷ rest) (in_front c rest)) 0 []
    go true rest e = refl
    go false [] e = refl
    go false (line ∷ rest) e = ap (λ (xs : List ℕ). c ∷ xs) e

-- it ends at the first line feed
first-cut : (n : ℕ) (text : List ℕ) → n < length text → Clear (take n text) → get_or text n 0 ≡ line_feed → lines_of text ≡ take (suc n) text ∷ lines_of (drop (suc n) text)
unfolding lines_of
first-cut n [] h k e = absurd (omega arith)
first-cut zero (c ∷ cs) h k e = rw e
first-cut (suc n) (c ∷ cs) h k e = rw (k.0, first-cut n cs (omega arith) k.1 e)

-- 13 bytes that have fields are there
pub fields-long : (w n : ℕ) (text vs : List ℕ) → fields_of w n (take 13 text) ≡ some vs → 13 ≤ length text
unfolding fields_of
fields-long w n text vs e =
    let line : List ℕ = take 13 text in
    let ended : (eqb (length line) 13 && eqb (get_or line 12 0) line_feed) ≡ true = (cond-some _ _ vs e).0 in
    omega (arith, length-take 13 text, eqb-true (length line) 13 (both_true (eqb (length line) 13) (eqb (get_or line 12 0) line_feed) ended).0)

-- 13 bytes that have fields are a line: the columns of fields hold no line feed
pub line-cut : (w n : ℕ) (text vs : List ℕ) → n * w ≡ 12 → fields_of w n (take 13 text) ≡ some vs → lines_of text ≡ take 13 text ∷ lines_of (drop 13 text)
unfolding fields_of
line-cut w n text vs z e =
    let line : List ℕ = take 13 text in
    let p = cond-some (eqb (length line) 13 && eqb (get_or line 12 0) line_feed) _ vs e in
    let ends : get_or line 12 0 ≡ line_feed = eqb-true (get_or line 12 0) line_feed (both_true (eqb (length line) 13) (eqb (get_or line 12 0) line_feed) p.0).1 in
    first-cut 12 text (fields-long w n text vs e) (rw (z, take-take 12 13 text (omega arith)) at (clear-fields w n line vs p.1)) (sym (get_or-take 13 text 12 0 (omega arith)) ∙ ends)

-- 13 bytes or not, the fields of the first line are those of the first 13 bytes
pub first-fields : (w n : ℕ) (text : List ℕ) → n * w ≡ 12 → fields_of w n (first_line text) ≡ fields_of w n (take 13 text)
unfolding fields_of
first-fields w n text z = go (eqb (length (first_line text)) 13) refl (fields_of w n (take 13 text)) refl
  where
    go : (t : Bool) → eqb (length (first_line text)) 13 ≡ t → (o : Option (List ℕ)) → fields_of w n (take 13 text) ≡ o → fields_of w n (first_line text) ≡ fields_of w n (take 13 text)
    go true e o k = ap (fields_of w n) (sym (first-front text) ∙ ap (λ (i : ℕ). take i text) (eqb-true (length (first_line text)) 13 e))
    go false e none k = rw e (sym k)
    go false e (some vs) k = ap (λ (lines : List (List ℕ)). fields_of w n (get_or lines 0 [])) (line-cut w n text vs z k)

pub header_at : (text : List ℕ) → header_of text ≡ fields_of 6 2 (take 13 text)
unfolding header_of
header_at text = first-fields 6 2 text refl

pub header-short : (text : List ℕ) → length text < 13 → header_of text ≡ none
unfolding fields_of
header-short text h = header_at text ∙ rw (ne_eqb (length (take 13 text)) 13 (λ e. omega (arith, length-take 13 text)))

-- the first 13 bytes, if they are there, are the header's line
pub header-is : (text line : List ℕ) → IsFirstChunk text line 13
    → header_of text ≡ cond (eqb (get_or line 12 0) line_feed) (whole (field (take 6 line) ∷ field (take 6 (drop 6 line)) ∷ [])) none
header-is text line f = header_at text ∙ ap (fields_of 6 2) (sym f.same) ∙ header-fields line (ap length f.same ∙ length-take-le 13 text f.enough)

pub first-pixel-line : (text : List ℕ) → pixel_line (first_line text) ≡ pixel_line (take 13 text)
unfolding pixel_line
first-pixel-line text = rw (first-fields 4 3 text refl)

pub pixel-line-cut : (text row : List ℕ) → pixel_line (take 13 text) ≡ some row → lines_of text ≡ take 13 text ∷ lines_of (drop 13 text)
unfolding pixel_line
pixel-line-cut text row e = let p = maybe-some _ (fields_of 4 3 (take 13 text)) row e in line-cut 4 3 text p.0 refl p.1

-- a swatch of some size has its header
header-there : (text : List ℕ) → 1 ≤ size_of text → (vs : List ℕ) × (fields_of 6 2 (take 13 text) ≡ some vs)
unfolding size_of
header-there text h = go (header_of text) refl h
  where
    go : (o : Option (List ℕ)) → header_of text ≡ o → 1 ≤ maybe 0 (λ vs. get_or vs 0 0 * get_or vs 1 0) o → (vs : List ℕ) × (fields_of 6 2 (take 13 text) ≡ some vs)
    go none e k = absurd (omega arith)
    go (some vs) e k = (vs, sym (header_at text) ∙ e)

pub header-cut : (text : List ℕ) → 1 ≤ size_of text → lines_of text ≡ take 13 text ∷ lines_of (drop 13 text)
header-cut text h = let p = header-there text h in line-cut 6 2 text p.0 refl p.1

pub header-long : (text : List ℕ) → 1 ≤ size_of text → 13 ≤ length text
header-long text h = let p = header-there text h in fields-long 6 2 text p.0 p.1
