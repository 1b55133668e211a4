-- The labels that the entries give their pixels, one after the other, are those of the card. Assumes nothing.
use Prim.Native.Nat.{ℕ, zero, suc, ◌+◌, ◌-◌, ◌≤◌, ◌<◌}
use mathlib.Core.Path.{◌≡◌, refl, sym, ap, ap₂, ◌∙◌}
use mathlib.Core.Bool.{Bool, true, false, cond, ◌&&◌}
use mathlib.Core.List.{List, [], ◌∷◌, ◌++◌}
use native.Mathlib.Numerals.{add-one}
use native.Mathlib.Omega.{arith}
use lib.Dec.{eqb}
use lib.ListN.{length, take, drop, get_or, set, length-map, length-set}
use lib.Seq.{ext_get_or, take-suc, get_or-set_same, get_or-set_other}
use borrow.Author.Tests.{eqb-true, eqb-false}
use Rattle.lists.specs.Lists.{total, numbers, count_if, filter, first_index}
use Rattle.lists.proofs.Each.{Each, each_at, each_all}
use Rattle.lists.proofs.Counting.{count-filter, count_same, number-counted}
use Rattle.lists.proofs.Firsts.{first_below, passes_at_first}
use Rattle.lists.proofs.Places.{map_at}
use Rattle.pixel.specs.declared.Pixel.{Pixel}
use Rattle.pixel.specs.Ranges.{Bytes}
use Rattle.verdict.specs.Test.{Closeness}
use Rattle.palette.specs.Cards.{Branch, all_greys, branches, label, labels}
use Rattle.palette.specs.Sound.{pixel_at}
use Rattle.palette.proofs.OneBranch.{one-branch}
use Rattle.palette.proofs.OneEntry.{branch_at}
use Rattle.dividing.specs.Splitting.{numbers_of}
use Rattle.making.specs.declared.CardEntries.{CardEntries}
use Rattle.making.specs.Making.{range_of, labelled, labels_by, RangesLaid, held_of, fits, card_entries, labels_left, PixelsLaid}
use Rattle.making.proofs.Laid.{lengths, next_start, part-is, BranchesLaid, ranges-laid, range_at, held_branches, held-laid, held_first}

-- ---- one entry's label
labelled-length : (k : ℕ) (xs lent : List ℕ) → length (labelled k xs lent) ≡ length lent
unfolding labelled
labelled-length k [] lent = refl
labelled-length k (x ∷ xs) lent = labelled-length k xs (set lent x k) ∙ length-set lent x k

labelled-last : (k : ℕ) (xs : List ℕ) (x : ℕ) (lent : List ℕ) → labelled k (xs ++ (x ∷ [])) lent ≡ set (labelled k xs lent) x k
unfolding labelled
labelled-last k [] x lent = refl
labelled-last k (y ∷ xs) x lent = labelled-last k xs x (set lent y k)

pub labelled-more : (k : ℕ) (xs lent : List ℕ) (i : ℕ) → i < length xs → set (labelled k (take i xs) lent) (get_or xs i 0) k ≡ labelled k (take (i + 1) xs) lent
labelled-more k xs lent i h =
    sym (labelled-last k (take i xs) (get_or xs i 0) lent) ∙ ap (λ (z : List ℕ). labelled k z lent) (sym (ap (λ (j : ℕ). take j xs) (add-one i) ∙ take-suc xs i 0 h))

labelled-keeps : (k : ℕ) (xs lent : List ℕ) (i : ℕ) → i < length lent → get_or lent i 0 ≡ k → get_or (labelled k xs lent) i 0 ≡ k
unfolding labelled
labelled-keeps k [] lent i l e = e
labelled-keeps k (x ∷ xs) lent i l e = labelled-keeps k xs (set lent x k) i (omega (arith, length-set lent x k)) (go (eqb i x) refl)
  where
    go : (t : Bool) → eqb i x ≡ t → get_or (set lent x k) i 0 ≡ k
    go true q = rw (sym (eqb-true i x q)) (get_or-set_same lent i k 0 l)
    go false q = get_or-set_other lent x i k 0 (eqb-false i x q) ∙ e

-- a place gets the label if it is among them, and else keeps its own
labelled-at : (k : ℕ) (xs lent : List ℕ) (i : ℕ) (t : Bool) → i < length lent → count_if (eqb i) xs ≡ cond t 1 0 → get_or (labelled k xs lent) i 0 ≡ cond t k (get_or lent i 0)
unfolding labelled count_if
labelled-at k [] lent i true l n = absurd (omega arith)
labelled-at k [] lent i false l n = refl
labelled-at k (x ∷ xs) lent i t l n = go (eqb i x) refl t n (λ t m. labelled-at k xs (set lent x k) i t (omega (arith, length-set lent x k)) m)
  where
    long : i < length (set lent x k)
    long = omega (arith, length-set lent x k)

    go : (s : Bool) → eqb i x ≡ s → (t : Bool) → cond s 1 0 + count_if (eqb i) xs ≡ cond t 1 0
        → ((t : Bool) → count_if (eqb i) xs ≡ cond t 1 0 → get_or (labelled k xs (set lent x k)) i 0 ≡ cond t k (get_or (set lent x k) i 0))
        → get_or (labelled k xs (set lent x k)) i 0 ≡ cond t k (get_or lent i 0)
    go true q true n rest = labelled-keeps k xs (set lent x k) i long (rw (sym (eqb-true i x q)) (get_or-set_same lent i k 0 l))
    go true q false n rest = absurd (omega arith)
    go false q true n rest = rest true (omega arith)
    go false q false n rest = rest false (omega arith) ∙ get_or-set_other lent x i k 0 (eqb-false i x q)

number-passes : (test : ℕ → Bool) (n i : ℕ) → i < n → count_if (eqb i) (filter test (numbers 0 n)) ≡ cond (test i) 1 0
unfolding count_if
number-passes test n i l =
    count-filter test (eqb i) (numbers 0 n)
    ∙ count_same (λ x. test x && eqb i x) (λ x. test i && eqb i x) (numbers 0 n) (each_all _ (numbers 0 n) (λ x. same x (eqb i x) refl))
    ∙ go (test i)
  where
    same : (x : ℕ) (t : Bool) → eqb i x ≡ t → (test x && eqb i x) ≡ (test i && eqb i x)
    same x true q = ap (λ (j : ℕ). test j && eqb i x) (sym (eqb-true i x q))
    same x false q = rw q (none (test x) ∙ sym (none (test i)))
      where
        none : (a : Bool) → (a && false) ≡ false
        none true = refl
        none false = refl

    nothing : (xs : List ℕ) → count_if (λ x. false && eqb i x) xs ≡ 0
    nothing [] = refl
    nothing (x ∷ xs) = omega (arith, nothing xs)

    go : (t : Bool) → count_if (λ x. t && eqb i x) (numbers 0 n) ≡ cond t 1 0
    go true = number-counted n i l
    go false = nothing (numbers 0 n)

-- the pixels of a branch get its number
branch-labelled : (ps : List Pixel) (b : Branch) (k : ℕ) (lent : List ℕ) (i : ℕ) → length lent ≡ length ps → i < length ps
    → get_or (labelled k (numbers_of ps b) lent) i 0 ≡ cond (b.has (pixel_at ps i)) k (get_or lent i 0)
unfolding numbers_of
branch-labelled ps b k lent i same l =
    labelled-at k (filter (λ j. b.has (pixel_at ps j)) (numbers 0 (length ps))) lent i (b.has (pixel_at ps i)) (omega arith)
    (number-passes (λ j. b.has (pixel_at ps j)) (length ps) i l)

-- ---- the labels of k entries
labels-by-length : (sizes xs : List ℕ) (k : ℕ) (lent : List ℕ) → length (labels_by sizes xs k lent) ≡ length lent
unfolding labels_by
labels-by-length sizes xs zero lent = refl
labels-by-length sizes xs (suc k) lent = labelled-length k (range_of sizes xs k) (labels_by sizes xs k lent) ∙ labels-by-length sizes xs k lent

-- after k entries
pub record LabelsGiven (xs sizes lent : List ℕ) (k at : ℕ) (now : List ℕ) : Type 0 where
  pub within : k ≤ length sizes
  pub start : at ≡ total (take k sizes)
  pub long : length now ≡ length lent
  pub given : now ≡ labels_by sizes xs k lent

pub given-more : (xs sizes lent : List ℕ) (pixels : ℕ) → RangesLaid xs sizes pixels → (k at : ℕ) (now : List ℕ) → LabelsGiven xs sizes lent k at now → k < length sizes
    → (next : List ℕ) → next ≡ labelled k (take (at + get_or sizes k 0 - at) (drop at xs)) now → LabelsGiven xs sizes lent (k + 1) (at + get_or sizes k 0) next
unfolding labels_by
given-more xs sizes lent pixels r k at now g more next q = record {
  within = omega arith;
  start = next_start xs sizes pixels r k at g.start more;
  long = ap length q ∙ labelled-length k _ now ∙ g.long;
  given = q ∙ ap₂ (labelled k) (part-is xs sizes pixels r k at g.start more) g.given ∙ ap (λ (j : ℕ). labels_by sizes xs j lent) (sym (add-one k));
}

-- ---- the labels of all entries
module _ (e : Closeness) (ps : List Pixel) (bytes : Each Bytes ps) (xs : List ℕ) (d : BranchesLaid ps (branches e ps) xs) (lent : List ℕ) (same : length lent ≡ length ps) where
  abbrev sizes : List ℕ
  sizes = lengths (numbers_of ps) (branches e ps)

  one : (i : ℕ) → i < length ps → count_if (λ (c : Branch). c.has (pixel_at ps i)) (branches e ps) ≡ 1
  one i l = each_at (λ p. count_if (λ (c : Branch). c.has p) (branches e ps) ≡ 1) ps (record { red = 0; green = 0; blue = 0 }) (one-branch e ps bytes) i l

  label_at : (k i : ℕ) → i < length ps → k ≤ length (branches e ps) → label e ps (pixel_at ps i) < k → get_or (labels_by sizes xs k lent) i 0 ≡ label e ps (pixel_at ps i)
  unfolding labels_by label
  label_at zero i l m h = absurd (omega arith)
  label_at (suc k) i l m h =
      let has : Branch → Bool = λ b. b.has (pixel_at ps i) in
      let here = passes_at_first has (branches e ps) all_greys (one i l) k (omega arith) in
      ap (λ (z : List ℕ). get_or (labelled k z (labels_by sizes xs k lent)) i 0) (range_at ps (branches e ps) xs d k (omega arith))
      ∙ branch-labelled ps (branch_at e ps k) k (labels_by sizes xs k lent) i (labels-by-length sizes xs k lent ∙ same) l
      ∙ go (eqb k j) refl here (λ o. label_at k i l (omega arith) o)
    where
      j : ℕ
      j = first_index (λ (b : Branch). b.has (pixel_at ps i)) (branches e ps)

      go : (t : Bool) → eqb k j ≡ t → (branch_at e ps k).has (pixel_at ps i) ≡ eqb k j → (j < k → get_or (labels_by sizes xs k lent) i 0 ≡ j)
          → cond ((branch_at e ps k).has (pixel_at ps i)) k (get_or (labels_by sizes xs k lent) i 0) ≡ j
      go true q p rest = rw (p ∙ q) (eqb-true k j q)
      go false q p rest = rw (p ∙ q) (rest (let apart = eqb-false k j q in omega arith))

  labels-are : labels_by sizes xs (length (branches e ps)) lent ≡ labels e ps
  unfolding labels label
  labels-are =
      ext_get_or 0 (labels_by sizes xs (length (branches e ps)) lent) (labels e ps) (labels-by-length sizes xs (length (branches e ps)) lent ∙ same ∙ sym (length-map ps (label e ps))) (λ i u.
      let l : i < length ps = omega (arith, labels-by-length sizes xs (length (branches e ps)) lent) in
      let only = one i l in
      label_at (length (branches e ps)) i l (omega arith) (omega (arith, first_below (λ (c : Branch). c.has (pixel_at ps i)) (branches e ps) (omega arith)))
      ∙ sym (map_at (label e ps) ps i (record { red = 0; green = 0; blue = 0 }) 0 l))

-- ---- the labels of the entries that a card holds: what writing them needs, and that they are left as they should be
module _ (e : Closeness) (ps : List Pixel) (xs sizes : List ℕ) (d : PixelsLaid e ps xs sizes) (r : CardEntries) (q : r ≡ card_entries e ps) where
  sized : take (held_of r.total) sizes ≡ lengths (numbers_of ps) (held_branches e ps)
  unfolding card_entries
  sized = held_first e ps (λ b. length (numbers_of ps b)) sizes d.counted r.total (ap (λ (s : CardEntries). s.total) q)

  pub labels-laid : RangesLaid xs (take (held_of r.total) sizes) (length ps)
  labels-laid = rw sized (ranges-laid ps (held_branches e ps) xs (held-laid e ps xs sizes d))

  pub labels-left : Each Bytes ps → (lent : List ℕ) → length lent ≡ length ps
      → labels_by (take (held_of r.total) sizes) xs (length (take (held_of r.total) sizes)) lent ≡ labels_left e ps lent
  unfolding labels_by labels_left
  labels-left bytes lent same = rw sized (go (fits e ps) (held-laid e ps xs sizes d))
    where
      go : (t : Bool) → (let bs = cond t (branches e ps) [] in BranchesLaid ps bs xs → labels_by (lengths (numbers_of ps) bs) xs (length (lengths (numbers_of ps) bs)) lent ≡ cond t (labels e ps) lent)
      go true d = rw (length-map (branches e ps) (λ b. length (numbers_of ps b))) (labels-are e ps bytes xs d lent same)
      go false d = refl
