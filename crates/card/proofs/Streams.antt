-- What reads put in a buffer and writes take from one, step by step. Assumes nothing.
use Rattle.std.proofs.Common.{◌≡◌, ℕ, ◌+◌, ◌-◌, ◌≤◌, List, ◌++◌, Option, length, take, drop, slice_range, sym, ap, ◌∙◌, subst, le_refl, drop_at, length-take-le}
use borrow.Rule.Slice.PartMut.{put_mid, post_of}
use lib.Seq.{take-add, take-take, take-append-le}
use Rattle.std.proofs.lemmas.Slice.{take-put_mid_below}
use Rattle.std.specs.Io.KnownBytes.{Consumes, Appends}
use Rattle.std.proofs.KnownBytes.{Consumes-trans, Appends-trans}

-- the bytes that a read put at place a, behind those before it
take-read : (a n : ℕ) (xs ys : List ℕ) → a ≤ length xs → n ≤ length ys
    → take (a + n) (put_mid a (length xs - a) xs ys) ≡ take a xs ++ take n ys
take-read a n xs ys within fits =
    let k = length xs - a in
    let new = put_mid a k xs ys in
    let behind : drop a new ≡ ys ++ post_of a k xs = drop_at (take a xs) (ys ++ post_of a k xs) a (length-take-le a xs within) in
    take-add a n new ∙ ap (λ l. l ++ take n (drop a new)) (take-put_mid_below _ _ _ _ _ (le_refl _) within) ∙ ap (λ l. take a xs ++ take n l) behind
    ∙ ap (λ l. take a xs ++ l) (take-append-le n ys (post_of a k xs) fits)

-- one more read
pub reads-on : (o m w : Option (List ℕ)) (a n : ℕ) (xs ys : List ℕ) → a ≤ length xs → n ≤ length ys → Consumes o m (take a xs) → Consumes m w (take n ys)
    → Consumes o w (take (a + n) (put_mid a (length xs - a) xs ys))
reads-on o m w a n xs ys within fits first second =
    subst (Consumes o w) (sym (take-read a n xs ys within fits)) (Consumes-trans o m w _ _ first second)

-- one more write, of the bytes from place a up to place b
pub writes-on : (o m w : Option (List ℕ)) (a b n : ℕ) (xs : List ℕ) → n ≤ b - a → Appends o m (take a xs) → Appends m w (take n (slice_range xs a b))
    → Appends o w (take (a + n) xs)
writes-on o m w a b n xs fits first second =
    subst (Appends o w) (ap (λ l. take a xs ++ l) (take-take n (b - a) (drop a xs) fits) ∙ sym (take-add a n xs)) (Appends-trans o m w _ _ first second)
