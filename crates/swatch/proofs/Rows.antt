-- The pixel lines of a text, read at every 13th byte: the bytes of `n` of them with nothing left over, line by line. Assumes nothing.
use Prim.Native.Nat.{ℕ, zero, suc, ◌+◌, ◌*◌, ◌-◌, ◌≤◌, ◌<◌}
use mathlib.Core.Path.{◌≡◌, refl, sym, ap, ◌∙◌}
use mathlib.Core.Bool.{Bool, true, false, cond}
use mathlib.Core.List.{List, [], ◌∷◌, ◌++◌, map, flat_map, append_assoc, append-nil}
use mathlib.Core.Option.{Option, none, some}
use native.Mathlib.Omega.{arith}
use native.Mathlib.Nat.{sub-zero}
use borrow.Author.Tests.{eqb-true}
use lib.Dec.{eqb, eqb-suc-suc, eqb-suc-zero, eqb-zero-suc}
use lib.ListN.{length, take, drop, get_or, length-drop, drop_of_length-le}
use lib.Seq.{drop-drop}
use Rattle.lists.specs.Lists.{maybe, whole}
use Rattle.lists.proofs.Missing.{cond-some, maybe-some}
use Rattle.swatch.specs.Input.{line_feed, in_front, lines_of, fields_of, size_of, pixel_line, pixel_bytes}
use Rattle.swatch.proofs.Lines.{first-pixel-line, pixel-line-cut, header-cut, header-long, fields-long}

-- bytes in front of those that follow, where they are there
abbrev pub joined : List ℕ → Option (List ℕ) → Option (List ℕ)
joined row rest = maybe none (λ rows. some (row ++ rows)) rest

pub joined-none : (rest : Option (List ℕ)) → joined [] rest ≡ rest
joined-none none = refl
joined-none (some rows) = refl

pub joined-joined : (xs ys : List ℕ) (rest : Option (List ℕ)) → joined xs (joined ys rest) ≡ joined (xs ++ ys) rest
joined-joined xs ys none = refl
joined-joined xs ys (some rows) = ap (λ (zs : List ℕ). some zs) (sym (append_assoc xs ys rows))

unfoldable pub rows_at : ℕ → List ℕ → Option (List ℕ)
rows_at zero text = cond (eqb (length text) 0) (some []) none
rows_at (suc n) text = maybe none (λ row. joined row (rows_at n (drop 13 text))) (pixel_line (take 13 text))

-- the same of lines
unfoldable rows_of : ℕ → List (List ℕ) → Option (List ℕ)
rows_of n lines = cond (eqb (length lines) n) (maybe none (λ rows. some (flat_map (λ row. row) rows)) (whole (map pixel_line lines))) none

rows-of-more : (n : ℕ) (line : List ℕ) (lines : List (List ℕ)) → rows_of (suc n) (line ∷ lines) ≡ maybe none (λ row. joined row (rows_of n lines)) (pixel_line line)
unfolding rows_of whole flat_map
rows-of-more n line lines = rw (eqb-suc-suc (length lines) n) (go (pixel_line line) (eqb (length lines) n) (whole (map pixel_line lines)))
  where
    go : (o : Option (List ℕ)) (t : Bool) (ws : Option (List (List ℕ)))
        → cond t (maybe none (λ rows. some (flat_map (λ row. row) rows)) (maybe none (λ v. maybe none (λ vs. some (v ∷ vs)) ws) o)) none
        ≡ maybe none (λ row. joined row (cond t (maybe none (λ rows. some (flat_map (λ row. row) rows)) ws) none)) o
    go none true ws = refl
    go none false ws = refl
    go (some row) false ws = refl
    go (some row) true none = refl
    go (some row) true (some rows) = refl

rows-of-none : (text : List ℕ) → rows_of 0 (lines_of text) ≡ rows_at 0 text
unfolding rows_of rows_at lines_of whole flat_map
rows-of-none [] = refl
rows-of-none (c ∷ cs) = rw (eqb-suc-zero (length cs)) (go (eqb c line_feed) (lines_of cs))
  where
    go : (t : Bool) (rest : List (List ℕ)) → rows_of 0 (cond t ((c ∷ []) ∷ rest) (in_front c rest)) ≡ none
    go true rest = rw (eqb-suc-zero (length rest))
    go false [] = refl
    go false (line ∷ rest) = rw (eqb-suc-zero (length rest))

rows-of-bad : (n : ℕ) (lines : List (List ℕ)) → pixel_line (get_or lines 0 []) ≡ none → rows_of (suc n) lines ≡ none
unfolding rows_of
rows-of-bad n [] e = rw (eqb-zero-suc n)
rows-of-bad n (line ∷ lines) e = rows-of-more n line lines ∙ rw e

rows-at : (n : ℕ) (text : List ℕ) → rows_of n (lines_of text) ≡ rows_at n text
unfolding rows_at
rows-at zero text = rows-of-none text
rows-at (suc n) text = go (pixel_line (take 13 text)) refl (rows-at n (drop 13 text))
  where
    go : (o : Option (List ℕ)) → pixel_line (take 13 text) ≡ o → rows_of n (lines_of (drop 13 text)) ≡ rows_at n (drop 13 text) → rows_of (suc n) (lines_of text) ≡ rows_at (suc n) text
    go none e ih = rw e (rows-of-bad n (lines_of text) (first-pixel-line text ∙ e))
    go (some row) e ih = ap (rows_of (suc n)) (pixel-line-cut text row e) ∙ rows-of-more n (take 13 text) (lines_of (drop 13 text)) ∙ rw ih

-- the bytes of a swatch of some size: its pixel lines stand after the first 13 bytes
pub pixel-bytes-at : (text : List ℕ) → 1 ≤ size_of text → pixel_bytes text ≡ rows_at (size_of text) (drop 13 text)
unfolding pixel_bytes rows_of
pixel-bytes-at text h = ap (λ (lines : List (List ℕ)). rows_of (size_of text) (drop 1 lines)) (header-cut text h) ∙ rows-at (size_of text) (drop 13 text)

-- lines that are there take 13 bytes each
line-long : (text row : List ℕ) → pixel_line (take 13 text) ≡ some row → 13 ≤ length text
unfolding pixel_line
line-long text row e = let p = maybe-some _ (fields_of 4 3 (take 13 text)) row e in fields-long 4 3 text p.0 p.1

pub rows_long : (n : ℕ) (text bs : List ℕ) → rows_at n text ≡ some bs → length text ≡ 13 * n
unfolding rows_at
rows_long zero text bs e = eqb-true (length text) 0 (cond-some (eqb (length text) 0) (some []) bs e).0
rows_long (suc n) text bs e =
    let p = maybe-some _ (pixel_line (take 13 text)) bs e in
    let q = maybe-some _ (rows_at n (drop 13 text)) bs p.2 in
    omega (arith, line-long text p.0 p.1, length-drop 13 text, rows_long n (drop 13 text) q.0 q.1)

-- ---- the lines one by one: before the first, one more, after the last
pub rows_start : (text : List ℕ) → 1 ≤ size_of text → joined [] (rows_at (size_of text - 0) (drop (13 * (0 + 1)) text)) ≡ pixel_bytes text
rows_start text h = joined-none (rows_at (size_of text - 0) (drop 13 text)) ∙ ap (λ (n : ℕ). rows_at n (drop 13 text)) (sub-zero (size_of text)) ∙ sym (pixel-bytes-at text h)

rows_more : (n i : ℕ) (text : List ℕ) → i < n
    → rows_at (n - i) (drop (13 * (i + 1)) text) ≡ maybe none (λ row. joined row (rows_at (n - (i + 1)) (drop (13 * (i + 1 + 1)) text))) (pixel_line (take 13 (drop (13 * (i + 1)) text)))
unfolding rows_at
rows_more n i text h =
    let e : n - i ≡ suc (n - (i + 1)) = omega arith in
    let f : 13 * (i + 1 + 1) ≡ 13 * (i + 1) + 13 = omega arith in
    rw (e, f, ← drop-drop 13 (13 * (i + 1)) text)

pub rows_step : (n i : ℕ) (text xs row : List ℕ) → i < n → some row ≡ pixel_line (take 13 (drop (13 * (i + 1)) text))
    → joined xs (rows_at (n - i) (drop (13 * (i + 1)) text)) ≡ joined (xs ++ row) (rows_at (n - (i + 1)) (drop (13 * (i + 1 + 1)) text))
rows_step n i text xs row h e = rw (rows_more n i text h, ← e) (joined-joined xs row (rows_at (n - (i + 1)) (drop (13 * (i + 1 + 1)) text)))

pub rows-bad : (n i : ℕ) (text xs : List ℕ) → i < n → none ≡ pixel_line (take 13 (drop (13 * (i + 1)) text)) → joined xs (rows_at (n - i) (drop (13 * (i + 1)) text)) ≡ none
rows-bad n i text xs h e = rw (rows_more n i text h, ← e)

pub rows_end : (n : ℕ) (text xs : List ℕ) → length text ≡ 13 * (n + 1) → joined xs (rows_at (n - n) (drop (13 * (n + 1)) text)) ≡ some xs
unfolding rows_at
rows_end n text xs h =
    let e : n - n ≡ 0 = omega arith in
    let f : drop (13 * (n + 1)) text ≡ [] = drop_of_length-le text {i = 13 * (n + 1)} (omega arith) in
    rw (e, f, append-nil xs)

-- lines are missing or left over
pub bytes-none : (text : List ℕ) → 1 ≤ size_of text → (length text ≡ 13 * (size_of text + 1) → ⊥) → pixel_bytes text ≡ none
bytes-none text h k = pixel-bytes-at text h ∙ go (rows_at (size_of text) (drop 13 text)) refl
  where
    go : (o : Option (List ℕ)) → rows_at (size_of text) (drop 13 text) ≡ o → o ≡ none
    go none e = refl
    go (some bs) e = absurd (k (omega (arith, header-long text h, rows_long (size_of text) (drop 13 text) bs e, length-drop 13 text)))
