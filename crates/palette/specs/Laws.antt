-- What holds for every card, whatever the order of its pixels. Assumes nothing.
--   Shuffle         the same members in another order
--   ShuffleKeeps    shuffling the pixels leaves the entries as they are and moves each label with its pixel
use Rattle.std.specs.Prelude.{◌≡◌, List, [], ◌∷◌, map}
use Rattle.pixel.specs.declared.Pixel.{Pixel}
use Rattle.verdict.specs.Test.{Closeness}
use Rattle.palette.specs.Cards.{entries, label, labels}

-- neighbours swap places, anywhere in the list, any number of times
pub data Shuffle {A : Type 0} : List A → List A → Type 0 where
  none : Shuffle [] []
  keep : {x : A} {xs ys : List A} → Shuffle xs ys → Shuffle (x ∷ xs) (x ∷ ys)
  swap : {x y : A} {xs : List A} → Shuffle (x ∷ y ∷ xs) (y ∷ x ∷ xs)
  chain : {xs ys zs : List A} → Shuffle xs ys → Shuffle ys zs → Shuffle xs zs

-- from the card of ps to that of qs
pub record Carried (e : Closeness) (ps qs : List Pixel) : Type 0 where
  pub same_entries : entries e qs ≡ entries e ps
  pub same_label : (p : Pixel) → label e qs p ≡ label e ps p
  -- so each pixel of qs bears the number that it bears in ps
  pub carried : labels e qs ≡ map (label e ps) qs

-- proved in proofs/Shuffles
abbrev pub ShuffleKeeps : Type 0
ShuffleKeeps = (e : Closeness) (ps qs : List Pixel) → Shuffle ps qs → Carried e ps qs
