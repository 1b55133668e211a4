-- Each pixel of an image lies in exactly one branch of its card, and no branch is empty. Assumes nothing.
use Prim.Native.Nat.{ℕ, ◌+◌, ◌<◌}
use mathlib.Core.Path.{◌≡◌, sym, ◌∙◌}
use mathlib.Core.Bool.{Bool, true, false, cond, not}
use mathlib.Core.List.{List, [], ◌∷◌}
use native.Mathlib.Omega.{arith}
use lib.Dec.{eqb}
use lib.ListN.{length}
use borrow.Author.Tests.{eqb-true, eqb-false}
use Rattle.lists.specs.Lists.{numbers, count_if}
use Rattle.lists.proofs.Cases.{by_cond}
use Rattle.lists.proofs.Each.{Each, each-so, each_both, each_append, each-flat-map, each_number}
use Rattle.lists.proofs.Counting.{count-append, none-counted}
use Rattle.pixel.specs.declared.Pixel.{Pixel}
use Rattle.pixel.specs.Colour.{is_grey}
use Rattle.pixel.specs.Ranges.{Bytes}
use Rattle.verdict.specs.Test.{Closeness}
use Rattle.palette.specs.Levels.{Level, grey_levels, colour_levels}
use Rattle.palette.specs.Cards.{Branch, all_greys, all_colours, members, modes_found, child, divide, divide_some, branches}
use Rattle.palette.proofs.Partition.{divide-part}
use Rattle.palette.proofs.Filled.{members-count, child-filled}

module _ (e : Closeness) (ps : List Pixel) (bytes : Each Bytes ps) where
  -- ---- one branch
  -- of how many of the branches bs the pixel is one
  abbrev among : List Branch → Pixel → ℕ
  among bs p = count_if (λ (c : Branch). c.has p) bs

  -- a kind without pixels has no branch, and no pixel needs one
  kind-part : (ls : List Level) (b : Branch) → Each (λ p. among (divide_some e ps ls b) p ≡ cond (b.has p) 1 0) ps
  unfolding divide_some count_if
  kind-part ls b =
      by_cond (λ bs. Each (λ p. among bs p ≡ cond (b.has p) 1 0) ps) (eqb (length (members ps b)) 0) [] (divide e ps ls b)
      (λ z. each-so (λ p. b.has p ≡ false) (λ p. 0 ≡ cond (b.has p) 1 0) ps (λ p f. rw f)
      (none-counted b.has ps (sym (members-count ps b) ∙ eqb-true (length (members ps b)) 0 z)))
      (λ z. each-so Bytes (λ p. among (divide e ps ls b) p ≡ cond (b.has p) 1 0) ps (λ p h. divide-part e ps ls b p h) bytes)

  pub one-branch : Each (λ p. count_if (λ (c : Branch). c.has p) (branches e ps) ≡ 1) ps
  unfolding branches
  one-branch =
      let gs = divide_some e ps grey_levels all_greys in
      let cs = divide_some e ps colour_levels all_colours in
      each-so (λ p. (among gs p ≡ cond (is_grey p) 1 0) × (among cs p ≡ cond (not (is_grey p)) 1 0)) (λ p. among (branches e ps) p ≡ 1) ps
      (λ p h. count-append (λ (c : Branch). c.has p) gs cs ∙ kinds (is_grey p) (among gs p) (among cs p) h.0 h.1)
      (each_both _ _ ps (kind-part grey_levels all_greys) (kind-part colour_levels all_colours))
    where
      kinds : (t : Bool) (m n : ℕ) → m ≡ cond t 1 0 → n ≡ cond (not t) 1 0 → m + n ≡ 1
      kinds true m n a b = omega arith
      kinds false m n a b = omega arith

  -- ---- no branch is empty
  abbrev Filled : Branch → Type 0
  Filled b = 0 < length (members ps b)

  divide-filled : (ls : List Level) (b : Branch) → Filled b → Each Filled (divide e ps ls b)
  unfolding divide
  divide-filled [] b some = (some, tt)
  divide-filled (l ∷ ls) b some =
      each-flat-map Filled (λ m. divide e ps ls (child e ps l b m)) (numbers 0 (modes_found e ps l b))
      (each_number (λ m. Each Filled (divide e ps ls (child e ps l b m))) 0 (modes_found e ps l b)
      (λ m k h. divide-filled ls (child e ps l b m) (child-filled e ps bytes l b some m (omega arith))))

  kind-filled : (ls : List Level) (b : Branch) → Each Filled (divide_some e ps ls b)
  unfolding divide_some
  kind-filled ls b =
      by_cond (Each Filled) (eqb (length (members ps b)) 0) [] (divide e ps ls b)
      (λ z. tt) (λ z. divide-filled ls b (let d = eqb-false (length (members ps b)) 0 z in omega arith))

  pub branches-filled : Each (λ c. 0 < length (members ps c)) (branches e ps)
  unfolding branches
  branches-filled =
      each_append Filled (divide_some e ps grey_levels all_greys) (divide_some e ps colour_levels all_colours)
      (kind-filled grey_levels all_greys) (kind-filled colour_levels all_colours)
