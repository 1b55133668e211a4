-- Each bin's place: there are as many places as bins, with the blocks of the fit; the place of a bin of any blocks; two places are the same or lie apart. Assumes nothing.
use mathlib.Core.Path.{◌≡◌, refl, sym, ◌∙◌, ap, subst}
use mathlib.Core.List.{List, [], ◌∷◌, ◌++◌, map}
use Prim.Native.Nat.{ℕ, ◌+◌, ◌-◌, ◌≤◌, ◌<◌}
use native.Mathlib.Omega.{arith}
use lib.ListN.{length, get_or, replicate, length-append, length-replicate, get_or-map, length-map}
use Rattle.lists.specs.Lists.{over}
use Rattle.lists.proofs.Cases.{by_order}
use Rattle.lists.proofs.Parts.{get_d-many, get_d_past}
use Rattle.lists.proofs.Buffers.{over-at}
use Rattle.lists.proofs.Repeats.{map-replicate-append}
use Rattle.pooling.specs.Blocks.{Block, Direction, Place, blocks, spread, fitted, places_from, places}
use Rattle.pooling.specs.Best.{CutInto}
use Rattle.pooling.specs.Stack.{bins_in}
use Rattle.pooling.proofs.Cuts.{cut-bins, Begins, here, there, PlaceOf, cut-place}
use Rattle.pooling.proofs.Laws.{blocks-cut}

-- ---- places of any blocks
places-from-length : (s : ℕ) (bs : List Block) → length (places_from s bs) ≡ bins_in bs
unfolding places_from bins_in
places-from-length s [] = refl
places-from-length s (b ∷ bs) =
    length-append (replicate b.len (record { start = s; block = b })) (places_from (s + b.len) bs)
    ∙ omega (arith, length-replicate {A = Place} b.len (record { start = s; block = b }), places-from-length (s + b.len) bs)

places-from-blocks : (s : ℕ) (bs : List Block) → map (λ (p : Place). p.block) (places_from s bs) ≡ spread bs
unfolding places_from
places-from-blocks s [] = refl
places-from-blocks s (b ∷ bs) =
    map-replicate-append (λ (p : Place). p.block) b.len (record { start = s; block = b }) (places_from (s + b.len) bs)
    ∙ ap (λ (z : List Block). replicate b.len b ++ z) (places-from-blocks (s + b.len) bs)

-- ---- the place of bin i of any blocks
-- of a bin past the last
abbrev pub nowhere : Place
nowhere = record { start = 0; block = record { sum = 0; len = 1 } }

abbrev pub place_in : List Block → ℕ → Place
place_in bs i = get_or (places_from 0 bs) i nowhere

begins-place : {h : List ℕ} {bs : List Block} {n : ℕ} {b : Block} → Begins h bs n b → (s t : ℕ) → t < b.len
    → get_or (places_from s bs) (n + t) nowhere ≡ record { start = s + n; block = b }
unfolding places_from
begins-place (here x h) s t l =
    let e : 0 + t ≡ t = omega arith in
    let z : s + 0 ≡ s = omega arith in
    rw (e, z) (get_d-many (length x) _ _ t nowhere l)
begins-place (there x {n = n} k) s t l =
    let e : length x + n + t ≡ length x + (n + t) = omega arith in
    let z : s + (length x + n) ≡ s + length x + n = omega arith in
    rw (e, z) (get_d_past (length x) _ _ (n + t) nowhere ∙ begins-place k (s + length x) t l)

-- a place is that of all bins of its block
pub place-covers : {h : List ℕ} {bs : List Block} {i : ℕ} {p : Place} → PlaceOf h bs i p → (t : ℕ) → p.start ≤ t → t < p.start + p.block.len → place_in bs t ≡ p
place-covers {bs = bs} {p = p} P t f g =
    let e : t ≡ p.start + (t - p.start) = omega arith in
    ap (place_in bs) e ∙ begins-place P.begins 0 (t - p.start) (omega arith) ∙ ap (λ (n : ℕ). record { start = n; block = p.block }) (omega arith)

pub place-of : {h : List ℕ} {bs : List Block} → CutInto h bs → (i : ℕ) → i < length h → PlaceOf h bs i (place_in bs i)
place-of {h = h} {bs = bs} c i l =
    let r = cut-place c i l in
    let P = r.1 in
    subst (λ (p : Place). PlaceOf h bs i p) (sym (place-covers P i P.from P.to)) P

pub place-block : (bs : List Block) (i : ℕ) → get_or (spread bs) i nowhere.block ≡ (place_in bs i).block
place-block bs i = ap (λ (z : List Block). get_or z i nowhere.block) (sym (places-from-blocks 0 bs)) ∙ get_or-map (λ (p : Place). p.block) (places_from 0 bs) i nowhere

-- two places are the same, or the earlier ends where the later starts or before
module _ {h : List ℕ} {bs : List Block} {i j : ℕ} {p q : Place} (P : PlaceOf h bs i p) (Q : PlaceOf h bs j q) where
  pub places_same : p.start ≡ q.start → p ≡ q
  places_same e =
      sym (place-covers P p.start (omega arith) (omega (arith, P.from, P.to))) ∙ ap (place_in bs) e
      ∙ place-covers Q q.start (omega arith) (omega (arith, Q.from, Q.to))

  meets : (t : ℕ) → p.start ≤ t → t < p.start + p.block.len → q.start ≤ t → t < q.start + q.block.len → p.start ≡ q.start
  meets t a b c d = ap (λ (z : Place). z.start) (sym (place-covers P t a b) ∙ place-covers Q t c d)

  pub places-apart : i ≤ j → ¬ (p.start ≡ q.start) → p.start + p.block.len ≤ q.start
  places-apart o n =
      by_order q.start (p.start + p.block.len)
      (λ e. by_order q.start p.start
      (λ f. absurd (n (meets p.start (omega arith) (omega (arith, P.from, P.to)) (omega arith) (omega (arith, P.from, Q.to)))))
      (λ f. absurd (n (meets q.start f e (omega arith) (omega (arith, Q.from, Q.to))))))
      (λ e. e)

-- ---- the places of a fit
pub places-length : (w : Direction) (h : List ℕ) → length (places w h) ≡ length h
unfolding places
places-length w h = places-from-length 0 (blocks w h) ∙ cut-bins (blocks-cut w h)

pub places-blocks : (w : Direction) (h : List ℕ) → map (λ (p : Place). p.block) (places w h) ≡ fitted w h
unfolding places fitted
places-blocks w h = places-from-blocks 0 (blocks w h)

-- the place of bin i
abbrev pub place_at : Direction → List ℕ → ℕ → Place
place_at w h i = get_or (places w h) i nowhere

-- one figure of bin i's place, read out of a buffer that has it of every bin
pub places-read : (w : Direction) (h : List ℕ) (f : Place → ℕ) (buffer : List ℕ) (i : ℕ) → i < length h → get_or (over (map f (places w h)) buffer) i 0 ≡ f (place_at w h i)
places-read w h f buffer i k =
    over-at (map f (places w h)) buffer i 0 (f nowhere) (omega (arith, length-map (places w h) f, places-length w h))
    ∙ get_or-map f (places w h) i nowhere
