-- Modes partition the pixels of a branch: a pixel of bytes lies in exactly one child of a branch that has it, and in exactly one branch below that one. Assumes nothing.
use Prim.Native.Nat.{ℕ}
use mathlib.Core.Path.{◌≡◌, refl, sym, ap, fun_ext, ◌∙◌}
use mathlib.Core.Bool.{Bool, true, false, cond, ◌&&◌}
use mathlib.Core.List.{List, [], ◌∷◌, map}
use native.Mathlib.Omega.{arith}
use lib.ListN.{length}
use Rattle.lists.specs.Lists.{numbers, count_if}
use Rattle.pixel.specs.declared.Pixel.{Pixel}
use Rattle.pixel.specs.Ranges.{Bytes}
use Rattle.verdict.specs.Test.{Closeness}
use Rattle.palette.specs.Levels.{Level, hue, saturation, intensity, bin_count, bin_of, lies_in}
use Rattle.palette.specs.Cards.{Branch, members, histogram_in, modes_found, in_child, child, divide}
use Rattle.lists.proofs.Counting.{count_none, count-total, count_map, count-flat-map, one-counted, total-same}
use Rattle.lists.proofs.Each.{each_all}
use Rattle.palette.proofs.LevelBins.{bin-below, histogram-length, bin-in-one-mode}

pub histogram-in-length : (ps : List Pixel) (l : Level) (b : Branch) → length (histogram_in ps l b) ≡ bin_count l
unfolding histogram_in
histogram-in-length ps l b = histogram-length l (members ps b)

module _ (e : Closeness) (ps : List Pixel) where
  pub child-has : (l : Level) (b : Branch) (m : ℕ) → (child e ps l b m).has ≡ in_child e ps l b m
  unfolding child
  child-has hue b m = refl
  child-has saturation b m = refl
  child-has intensity b m = refl

  -- of the modes of b's histogram, the pixel lies in one if b has it, else in none
  pub modes-part : (l : Level) (b : Branch) (p : Pixel) → Bytes p
      → count_if (λ m. in_child e ps l b m p) (numbers 0 (modes_found e ps l b)) ≡ cond (b.has p) 1 0
  unfolding in_child modes_found
  modes-part l b p bytes = go (b.has p)
    where
      go : (t : Bool) → count_if (λ m. t && lies_in e l (histogram_in ps l b) m (bin_of l p)) (numbers 0 (modes_found e ps l b)) ≡ cond t 1 0
      go true =
          one-counted (modes_found e ps l b) (λ m. lies_in e l (histogram_in ps l b) m (bin_of l p))
          (bin-in-one-mode e l (histogram_in ps l b) (histogram-in-length ps l b) (bin_of l p) (bin-below l p bytes))
      go false = count_none (λ m. false) (numbers 0 (modes_found e ps l b)) 0 (λ i k. refl)

  pub children-part : (l : Level) (b : Branch) (p : Pixel) → Bytes p
      → count_if (λ (c : Branch). c.has p) (map (child e ps l b) (numbers 0 (modes_found e ps l b))) ≡ cond (b.has p) 1 0
  children-part l b p bytes =
      count_map (λ (c : Branch). c.has p) (child e ps l b) (numbers 0 (modes_found e ps l b))
      ∙ ap (λ (test : ℕ → Bool). count_if test (numbers 0 (modes_found e ps l b))) (fun_ext (λ (m : ℕ). ap (λ (has : Pixel → Bool). has p) (child-has l b m)))
      ∙ modes-part l b p bytes

  -- of the branches at the levels left, the pixel lies in one if b has it, else in none
  pub divide-part : (ls : List Level) (b : Branch) (p : Pixel) → Bytes p → count_if (λ (c : Branch). c.has p) (divide e ps ls b) ≡ cond (b.has p) 1 0
  unfolding divide count_if
  divide-part [] b p bytes = omega arith
  divide-part (l ∷ ls) b p bytes =
      let ms = numbers 0 (modes_found e ps l b) in
      count-flat-map (λ (c : Branch). c.has p) (λ m. divide e ps ls (child e ps l b m)) ms
      ∙ total-same _ (λ m. cond ((child e ps l b m).has p) 1 0) ms (each_all _ ms (λ m. divide-part ls (child e ps l b m) p bytes))
      ∙ sym (count-total (λ m. (child e ps l b m).has p) ms)
      ∙ sym (count_map (λ (c : Branch). c.has p) (child e ps l b) ms)
      ∙ children-part l b p bytes
