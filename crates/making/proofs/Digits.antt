-- The digits of an entry's code are its kind and its mode numbers. Assumes nothing.
use Prim.Native.Nat.{ℕ, ◌<◌}
use mathlib.Core.List.{List, [], ◌∷◌}
use native.Mathlib.Omega.{arith}
use lib.Dec.{eqb}
use lib.ListN.{length}
use Rattle.lists.specs.Lists.{numbers}
use Rattle.lists.proofs.Cases.{by_cond}
use Rattle.lists.proofs.Each.{Each, each_append, each-flat-map, each_number}
use Rattle.pixel.specs.declared.Pixel.{Pixel}
use Rattle.verdict.specs.Test.{Closeness}
use Rattle.palette.specs.Levels.{Level, hue, saturation, intensity, grey_levels, colour_levels}
use Rattle.palette.specs.Cards.{Branch, all_greys, all_colours, members, modes_found, child, divide, divide_some, branches}
use Rattle.palette.proofs.FewModes.{found-few}
use Rattle.dividing.specs.Splitting.{code_of}
use Rattle.dividing.specs.Sorted.{code_count, mode_base}

pub record Digits (b : Branch) : Type 0 where
  pub kind : b.kind < 2
  pub hue : b.hue < mode_base
  pub saturation : b.saturation < mode_base
  pub intensity : b.intensity < mode_base

pub code_below : (b : Branch) → Digits b → code_of b < code_count
code_below b d = omega (arith, d.kind, d.hue, d.saturation, d.intensity)

module _ (e : Closeness) (ps : List Pixel) where
  child-digits : (l : Level) (b : Branch) (m : ℕ) → Digits b → m < modes_found e ps l b → Digits (child e ps l b m)
  unfolding child
  child-digits hue b m d k = record { kind = d.kind; hue = omega (arith, found-few e ps hue b); saturation = d.saturation; intensity = d.intensity }
  child-digits saturation b m d k = record { kind = d.kind; hue = d.hue; saturation = omega (arith, found-few e ps saturation b); intensity = d.intensity }
  child-digits intensity b m d k = record { kind = d.kind; hue = d.hue; saturation = d.saturation; intensity = omega (arith, found-few e ps intensity b) }

  divide-digits : (ls : List Level) (b : Branch) → Digits b → Each Digits (divide e ps ls b)
  unfolding divide
  divide-digits [] b d = (d, tt)
  divide-digits (l ∷ ls) b d =
      each-flat-map Digits (λ m. divide e ps ls (child e ps l b m)) (numbers 0 (modes_found e ps l b))
      (each_number (λ m. Each Digits (divide e ps ls (child e ps l b m))) 0 (modes_found e ps l b)
      (λ m a k. divide-digits ls (child e ps l b m) (child-digits l b m d (omega arith))))

  kind-digits : (ls : List Level) (b : Branch) → Digits b → Each Digits (divide_some e ps ls b)
  unfolding divide_some
  kind-digits ls b d = by_cond (Each Digits) (eqb (length (members ps b)) 0) [] (divide e ps ls b) (λ z. tt) (λ z. divide-digits ls b d)

  pub branches-digits : Each Digits (branches e ps)
  unfolding branches
  branches-digits =
      each_append Digits (divide_some e ps grey_levels all_greys) (divide_some e ps colour_levels all_colours)
      (kind-digits grey_levels all_greys (record { kind = omega arith; hue = omega arith; saturation = omega arith; intensity = omega arith }))
      (kind-digits colour_levels all_colours (record { kind = omega arith; hue = omega arith; saturation = omega arith; intensity = omega arith }))
