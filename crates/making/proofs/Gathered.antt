-- The pixels of one entry, passed one by one: what they come to. Assumes nothing.
use Prim.Native.Nat.{ℕ, ◌+◌, ◌*◌, ◌≤◌, ◌<◌}
use mathlib.Core.Path.{◌≡◌, refl, sym, ap, ap₂, ◌∙◌}
use mathlib.Core.List.{List, [], ◌∷◌, map}
use native.Mathlib.Omega.{arith}
use lib.ListN.{length, take, get_or, length-map}
use lib.Seq.{take_all, length-take-le}
use Rattle.lists.specs.Lists.{total}
use Rattle.lists.proofs.Parts.{take-map}
use Rattle.lists.proofs.Places.{map_at}
use Rattle.lists.proofs.Sums.{total-more}
use Rattle.pixel.specs.declared.Pixel.{Pixel}
use Rattle.pixel.specs.Ranges.{Bytes}
use Rattle.palette.specs.Sound.{pixel_at}
use Rattle.making.specs.declared.Sums.{Sums}
use Rattle.making.specs.Making.{sum_of, sums_of, largest_byte, SumsFew}

sum_more : (f : Pixel → ℕ) (ps : List Pixel) (xs : List ℕ) (i : ℕ) → i < length xs → sum_of f ps (take (i + 1) xs) ≡ sum_of f ps (take i xs) + f (pixel_at ps (get_or xs i 0))
unfolding sum_of
sum_more f ps xs i h =
    let g : ℕ → ℕ = λ j. f (pixel_at ps j) in
    let k : i < length (map g xs) = omega (arith, length-map xs g) in
    ap total (sym (take-map g (i + 1) xs)) ∙ total-more (map g xs) i k ∙ ap₂ (λ (a b : ℕ). a + b) (ap total (take-map g i xs)) (map_at g xs i 0 0 h)

sum-le : (f : Pixel → ℕ) (ps : List Pixel) (xs : List ℕ) → ((i : ℕ) → f (pixel_at ps i) ≤ largest_byte) → sum_of f ps xs ≤ largest_byte * length xs
unfolding sum_of
sum-le f ps [] h = omega arith
sum-le f ps (x ∷ xs) h = omega (arith, h x, sum-le f ps xs h)

pub sums-few : (ps : List Pixel) (xs : List ℕ) → ((i : ℕ) → Bytes (pixel_at ps i)) → SumsFew (sums_of ps xs) (length xs)
sums-few ps xs bytes = record {
  red = sum-le (λ p. p.red) ps xs (λ i. omega (arith, (bytes i).red));
  green = sum-le (λ p. p.green) ps xs (λ i. omega (arith, (bytes i).green));
  blue = sum-le (λ p. p.blue) ps xs (λ i. omega (arith, (bytes i).blue));
}

-- after i pixels
pub record Gathered (ps : List Pixel) (xs : List ℕ) (i red green blue : ℕ) : Type 0 where
  pub within : i ≤ length xs
  pub reds : red ≡ sum_of (λ p. p.red) ps (take i xs)
  pub greens : green ≡ sum_of (λ p. p.green) ps (take i xs)
  pub blues : blue ≡ sum_of (λ p. p.blue) ps (take i xs)

module _ (ps : List Pixel) (xs : List ℕ) where
  pub gathered_none : Gathered ps xs 0 0 0 0
  unfolding sum_of
  gathered_none = record { within = omega arith; reds = refl; greens = refl; blues = refl }

  module _ (i red green blue : ℕ) (s : Gathered ps xs i red green blue) where
    -- room for one pixel more
    pub gathered-room : ((j : ℕ) → Bytes (pixel_at ps j)) → SumsFew (record { red = red; green = green; blue = blue }) (length xs)
    gathered-room bytes =
        let few = sums-few ps (take i xs) bytes in
        let long = length-take-le i xs s.within in
        record { red = omega (arith, few.red, s.reds); green = omega (arith, few.green, s.greens); blue = omega (arith, few.blue, s.blues) }

    pub gathered-more : i < length xs → (p : Pixel) → p ≡ pixel_at ps (get_or xs i 0) → (r g b : ℕ) → r ≡ red + p.red → g ≡ green + p.green → b ≡ blue + p.blue
        → Gathered ps xs (i + 1) r g b
    gathered-more h p q r g b er eg eb = record {
      within = omega arith;
      reds = er ∙ ap₂ (λ (a c : ℕ). a + c) s.reds (ap (λ (p : Pixel). p.red) q) ∙ sym (sum_more (λ p. p.red) ps xs i h);
      greens = eg ∙ ap₂ (λ (a c : ℕ). a + c) s.greens (ap (λ (p : Pixel). p.green) q) ∙ sym (sum_more (λ p. p.green) ps xs i h);
      blues = eb ∙ ap₂ (λ (a c : ℕ). a + c) s.blues (ap (λ (p : Pixel). p.blue) q) ∙ sym (sum_more (λ p. p.blue) ps xs i h);
    }

    pub gathered-all : length xs ≤ i → ◌≡◌ {A = Sums} (record { red = red; green = green; blue = blue }) (sums_of ps xs)
    gathered-all end = rw (s.reds, s.greens, s.blues, take_all i xs end)
