-- What splitting and walking give, put together: the entries of one mode after those of the modes before it. Assumes nothing.
use Prim.Native.Nat.{ℕ, zero, suc, ◌+◌, ◌*◌, ◌-◌, ◌^◌, ◌≤◌, ◌<◌}
use mathlib.Core.Path.{◌≡◌, refl, sym, ap, ap₂, ◌∙◌}
use mathlib.Core.List.{List, [], ◌∷◌, ◌++◌, map, flat_map, append_assoc, append-nil, map-append}
use native.Mathlib.Omega.{arith}
use native.Mathlib.Nat.{mul-le-mul_right}
use native.Mathlib.Numerals.{unary_clauses}
use lib.Dec.{eqb}
use lib.ListN.{length, take, set, length-append, length-map}
use lib.Seq.{sets, take_at, take-append_seam, drop-append_seam}
use Rattle.lists.specs.Lists.{numbers, count_if}
use Rattle.lists.proofs.Cases.{by_cond}
use Rattle.lists.proofs.Each.{Each, each_from, each_at, each_all, each-flat-map}
use Rattle.lists.proofs.Filters.{numbers-length}
use Rattle.lists.proofs.Flattened.{flat_map_append, flat-map-few, map_same}
use Rattle.pixel.specs.declared.Pixel.{Pixel}
use Rattle.verdict.specs.Test.{Closeness}
use Rattle.palette.specs.Levels.{Level, bin_count}
use Rattle.dividing.specs.Sorted.{mode_base, tally, marked, sorted_by}
use Rattle.dividing.specs.Splitting.{AllIn, level_at, Leaf, bins_of, modes_of, marks_of, leaves, walked, resting, Split}
use Rattle.dividing.proofs.Tallies.{tally-length}
use Rattle.dividing.proofs.Scattering.{marked-length, numbers-both}
use Rattle.dividing.proofs.Ranges.{bins-length}
use Rattle.dividing.proofs.LevelSort.{modes-digit}

-- ---- figures stored one after the other
sets-append : {A : Type 0} (xs : List A) (i : ℕ) (us vs : List A) → sets xs i (us ++ vs) ≡ sets (sets xs i us) (i + length us) vs
sets-append xs i [] vs = ap (λ (j : ℕ). sets xs j vs) (omega arith)
sets-append xs i (u ∷ us) vs = sets-append (set xs i u) (suc i) us vs ∙ ap (λ (j : ℕ). sets (sets (set xs i u) (suc i) us) j vs) (omega arith)

-- ---- entries
pub split-none : (found : ℕ) (codes sizes : List ℕ) → Split [] found codes sizes codes sizes [] found
unfolding flat_map
split-none found codes sizes = record { count = omega arith; coded = refl; sized = refl; order = refl }

pub split-leaf : (e : Closeness) (ps : List Pixel) (left code : ℕ) (xs : List ℕ) (found : ℕ) (codes sizes codes' sizes' a b : List ℕ) (found' : ℕ) → left ≡ 0
    → found' ≡ found + 1 → codes' ≡ set codes found code → sizes' ≡ set sizes found (length xs) → a ≡ xs
    → Split (leaves e ps left code xs) found codes sizes codes' sizes' (resting left a b) found'
unfolding leaves flat_map
split-leaf e ps left code xs found codes sizes codes' sizes' a b found' z f c s o =
    rw z (record { count = f; coded = c; sized = s; order = o ∙ sym (append-nil xs) })

pub split-both : (ls ms : List Leaf) (found found' found'' : ℕ) (codes codes' codes'' sizes sizes' sizes'' us vs : List ℕ)
    → Split ls found codes sizes codes' sizes' us found' → Split ms found' codes' sizes' codes'' sizes'' vs found''
    → Split (ls ++ ms) found codes sizes codes'' sizes'' (us ++ vs) found''
split-both ls ms found found' found'' codes codes' codes'' sizes sizes' sizes'' us vs s t =
    let code : Leaf → ℕ = λ l. l.code in
    let size : Leaf → ℕ = λ l. length l.pixels in
    record {
      count = omega (arith, s.count, t.count, length-append ls ms);
      coded = t.coded ∙ rw (s.coded, s.count) (ap (λ (j : ℕ). sets (sets codes found (map code ls)) j (map code ms)) (ap (λ (j : ℕ). found + j) (sym (length-map ls code)))
          ∙ sym (sets-append codes found (map code ls) (map code ms)) ∙ ap (sets codes found) (sym (map-append code ls ms)));
      sized = t.sized ∙ rw (s.sized, s.count) (ap (λ (j : ℕ). sets (sets sizes found (map size ls)) j (map size ms)) (ap (λ (j : ℕ). found + j) (sym (length-map ls size)))
          ∙ sym (sets-append sizes found (map size ls) (map size ms)) ∙ ap (sets sizes found) (sym (map-append size ls ms)));
      order = ap₂ (λ (x y : List ℕ). x ++ y) s.order t.order ∙ sym (flat_map_append (λ (l : Leaf). l.pixels) ls ms);
    }

pub resting-both : (n : ℕ) (a b c d : List ℕ) → resting n (a ++ b) (c ++ d) ≡ resting n a c ++ resting n b d
resting-both zero a b c d = refl
resting-both (suc n) a b c d = resting-both n c d a b

-- ---- the modes of a level, walked
module _ (e : Closeness) (ps : List Pixel) where
  walked-flat : (left c m k : ℕ) (f : ℕ → List ℕ) (rest : List ℕ)
      → walked e ps left (c + m) (map (λ j. length (f j)) (numbers m k)) (flat_map f (numbers m k) ++ rest) ≡ flat_map (λ j. leaves e ps left (c + j) (f j)) (numbers m k)
  unfolding walked numbers flat_map
  walked-flat left c m zero f rest = refl
  walked-flat left c m (suc k) f rest =
      let more = flat_map f (numbers (suc m) k) in
      let z : suc (c + m) ≡ c + suc m = omega arith in
      rw (append_assoc (f m) more rest, take-append_seam (f m) (more ++ rest), drop-append_seam (f m) (more ++ rest), z)
      (ap (λ zs. leaves e ps left (c + m) (f m) ++ zs) (walked-flat left c (suc m) k f rest))

  pub walk-all : (left code : ℕ) (xs sizes sorted : List ℕ) (n : ℕ) → 1 ≤ left
      → n ≡ modes_of e (level_at left) (bins_of ps (level_at left) xs) → n ≤ mode_base
      → sizes ≡ tally mode_base (marks_of e (level_at left) (bins_of ps (level_at left) xs)) → sorted ≡ sorted_by mode_base (marks_of e (level_at left) (bins_of ps (level_at left) xs)) xs
      → walked e ps (left - 1) (code * mode_base) (take n sizes) sorted ≡ leaves e ps left code xs
  unfolding leaves sorted_by tally marks_of
  walk-all zero code xs sizes sorted n some q few s o = absurd (omega arith)
  walk-all (suc left) code xs sizes sorted n some q few s o =
      let l = level_at (suc left) in
      let ks = marks_of e l (bins_of ps l xs) in
      let f : ℕ → List ℕ = λ m. marked m ks xs in
      let rest = flat_map f (numbers (0 + n) (mode_base - n)) in
      let z : suc left - 1 ≡ left = omega arith in
      let w : code * mode_base + 0 ≡ code * mode_base = omega arith in
      let both : numbers 0 mode_base ≡ numbers 0 n ++ numbers (0 + n) (mode_base - n) = ap (numbers 0) (omega arith) ∙ numbers-both 0 n (mode_base - n) in
      let same : length ks ≡ length xs = length-map (bins_of ps l xs) _ ∙ bins-length ps l xs in
      let counts : take n (tally mode_base ks) ≡ map (λ j. length (f j)) (numbers 0 n) =
      ap (take n) (ap (map (λ k. count_if (eqb k) ks)) both ∙ map-append (λ k. count_if (eqb k) ks) (numbers 0 n) (numbers (0 + n) (mode_base - n)))
      ∙ take_at (map (λ k. count_if (eqb k) ks) (numbers 0 n)) _ n (length-map (numbers 0 n) _ ∙ numbers-length 0 n)
      ∙ map_same _ _ (numbers 0 n) (each_all _ (numbers 0 n) (λ m. sym (marked-length m ks xs same))) in
      let parted : sorted_by mode_base ks xs ≡ flat_map f (numbers 0 n) ++ rest = ap (flat_map f) both ∙ flat_map_append f (numbers 0 n) (numbers (0 + n) (mode_base - n)) in
      rw (z, s, o, counts, parted) (ap (λ (c : ℕ). walked e ps left c (map (λ j. length (f j)) (numbers 0 n)) (flat_map f (numbers 0 n) ++ rest)) (sym w) ∙ walked-flat left (code * mode_base) 0 n f rest ∙ ap (λ (j : ℕ). flat_map (λ m. leaves e ps left (code * mode_base + m) (f m)) (numbers 0 j)) q)

-- ---- each number is still a pixel's
each-marked : (P : ℕ → Type 0) (m : ℕ) (ks xs : List ℕ) → Each P xs → Each P (marked m ks xs)
unfolding marked
each-marked P m [] xs h = tt
each-marked P m (k ∷ ks) [] h = tt
each-marked P m (k ∷ ks) (x ∷ xs) h =
    let r = each-marked P m ks xs h.1 in
    by_cond (Each P) (eqb m k) (x ∷ marked m ks xs) (marked m ks xs) (λ t. (h.0, r)) (λ t. r)

pub sorted-in : (n : ℕ) (ks xs bytes : List ℕ) → AllIn xs bytes → AllIn (sorted_by n ks xs) bytes
unfolding sorted_by
sorted-in n ks xs bytes h =
    let P : ℕ → Type 0 = λ x. 3 * x + 2 < length bytes in
    each_at P (sorted_by n ks xs) 0 (each-flat-map P (λ m. marked m ks xs) (numbers 0 n) (each_all _ (numbers 0 n) (λ m. each-marked P m ks xs (each_from P xs 0 h))))

-- ---- room for what is found: no level has more than 64 modes
pub room-more : (left : ℕ) → 1 ≤ left → mode_base ^ left ≡ mode_base * mode_base ^ (left - 1)
room-more zero l = absurd (omega arith)
room-more (suc n) l =
    let z : suc n - 1 ≡ n = omega arith in
    rw z (simp unary_clauses (omega arith))

pub room-some : (left : ℕ) → 1 ≤ mode_base ^ left
room-some zero = omega arith
room-some (suc n) = let z : suc n - 1 ≡ n = omega arith in omega (arith, rw z at (room-more (suc n) (omega arith)), room-some n)

module _ (e : Closeness) (ps : List Pixel) where
  pub modes-in-base : (l : Level) (keys : List ℕ) → modes_of e l keys ≤ mode_base
  unfolding modes_of
  modes-in-base l keys = omega (arith, modes-digit e l (tally (bin_count l) keys) (tally-length (bin_count l) keys))

  pub leaves-few : (left code : ℕ) (xs : List ℕ) → length (leaves e ps left code xs) ≤ mode_base ^ left
  unfolding leaves
  leaves-few zero code xs = omega arith
  leaves-few (suc left) code xs =
      let l = level_at (suc left) in
      let keys = bins_of ps l xs in
      let z : suc left - 1 ≡ left = omega arith in
      let ms = numbers 0 (modes_of e l keys) in
      let few = flat-map-few (λ m. leaves e ps left (code * mode_base + m) (marked m (marks_of e l keys) xs)) (mode_base ^ left) ms (λ m. leaves-few left (code * mode_base + m) (marked m (marks_of e l keys) xs)) in
      omega (arith, few, rw z at (room-more (suc left) (omega arith)), ap (λ (j : ℕ). j * mode_base ^ left) (numbers-length 0 (modes_of e l keys)), mul-le-mul_right (mode_base ^ left) (modes-in-base l keys))
