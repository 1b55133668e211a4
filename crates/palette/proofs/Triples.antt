-- The pixels of a list of bytes, three to a pixel. Assumes nothing.
use Prim.Native.Nat.{ℕ, zero, suc, ◌+◌, ◌*◌, ◌<◌}
use mathlib.Core.Path.{◌≡◌, refl, ap, ◌∙◌}
use mathlib.Core.List.{List, [], ◌∷◌}
use native.Mathlib.Omega.{arith}
use lib.ListN.{length, get_or}
use Rattle.pixel.specs.declared.Pixel.{Pixel}
use Rattle.pixel.specs.Ranges.{Bytes}
use Rattle.palette.specs.Cards.{pixels_of}
use Rattle.palette.specs.Sound.{pixel_at}

pub pixels-length : (bytes : List ℕ) (n : ℕ) → length bytes ≡ 3 * n → length (pixels_of bytes) ≡ n
unfolding pixels_of
pixels-length [] n e = omega arith
pixels-length (r ∷ []) n e = absurd (omega arith)
pixels-length (r ∷ g ∷ []) n e = absurd (omega arith)
pixels-length (r ∷ g ∷ b ∷ rest) zero e = absurd (omega arith)
pixels-length (r ∷ g ∷ b ∷ rest) (suc n) e = ap suc (pixels-length rest n (omega arith))

triple : ℕ → List ℕ → Pixel
triple j bytes = record { red = get_or bytes j 0; green = get_or bytes (suc j) 0; blue = get_or bytes (suc (suc j)) 0 }

triples : (bytes : List ℕ) (i j : ℕ) → j ≡ 3 * i → 3 * i + 2 < length bytes → pixel_at (pixels_of bytes) i ≡ triple j bytes
unfolding pixels_of triple
triples [] i j e h = absurd (omega arith)
triples (r ∷ []) i j e h = absurd (omega arith)
triples (r ∷ g ∷ []) i j e h = absurd (omega arith)
triples (r ∷ g ∷ b ∷ rest) zero zero e h = refl
triples (r ∷ g ∷ b ∷ rest) zero (suc j) e h = absurd (omega arith)
triples (r ∷ g ∷ b ∷ rest) (suc i) (suc (suc (suc j))) e h = triples rest i j (omega arith) (omega arith)
triples (r ∷ g ∷ b ∷ rest) (suc i) (suc (suc zero)) e h = absurd (omega arith)
triples (r ∷ g ∷ b ∷ rest) (suc i) (suc zero) e h = absurd (omega arith)
triples (r ∷ g ∷ b ∷ rest) (suc i) zero e h = absurd (omega arith)

pub pixels-at : (bytes : List ℕ) (i : ℕ) → 3 * i + 2 < length bytes
    → pixel_at (pixels_of bytes) i ≡ record { red = get_or bytes (3 * i) 0; green = get_or bytes (3 * i + 1) 0; blue = get_or bytes (3 * i + 2) 0 }
unfolding triple
pixels-at bytes i h =
    let one : suc (3 * i) ≡ 3 * i + 1 = omega arith in
    let two : suc (suc (3 * i)) ≡ 3 * i + 2 = omega arith in
    triples bytes i (3 * i) refl h
    ∙ ap (λ (m : ℕ). record { red = get_or bytes (3 * i) 0; green = get_or bytes m 0; blue = get_or bytes (suc (suc (3 * i))) 0 }) one
    ∙ ap (λ (m : ℕ). record { red = get_or bytes (3 * i) 0; green = get_or bytes (3 * i + 1) 0; blue = get_or bytes m 0 }) two

-- bytes make pixels of bytes, also the pixel that stands for none
pub pixels-bytes : (bytes : List ℕ) → ((j : ℕ) → get_or bytes j 0 < 256) → (i : ℕ) → Bytes (pixel_at (pixels_of bytes) i)
unfolding pixels_of
pixels-bytes [] h i = record { red = omega arith; green = omega arith; blue = omega arith }
pixels-bytes (r ∷ []) h i = record { red = omega arith; green = omega arith; blue = omega arith }
pixels-bytes (r ∷ g ∷ []) h i = record { red = omega arith; green = omega arith; blue = omega arith }
pixels-bytes (r ∷ g ∷ b ∷ rest) h zero = record { red = omega (arith, h 0); green = omega (arith, h 1); blue = omega (arith, h 2) }
pixels-bytes (r ∷ g ∷ b ∷ rest) h (suc i) = pixels-bytes rest (λ j. h (suc (suc (suc j)))) i
