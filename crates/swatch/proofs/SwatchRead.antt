-- A written swatch is read back. Assumes nothing.
use Prim.Native.Nat.{ℕ, zero, suc, ◌*◌, ◌≤◌, ◌<◌, ◌^◌}
use mathlib.Core.Path.{◌≡◌, refl, sym, ap, ◌∙◌}
use mathlib.Core.List.{List, [], ◌∷◌, map, flat_map, map-map}
use mathlib.Core.Option.{some}
use native.Mathlib.Omega.{arith}
use native.Mathlib.Nat.{mul_comm}
use borrow.Author.Tests.{eq-eqb, le-leb}
use lib.ListN.{length, length-map}
use Rattle.lists.specs.Lists.{all}
use Rattle.lists.proofs.Each.{each_from, each-so}
use Rattle.lists.proofs.Missing.{whole_each}
use Rattle.pixel.specs.declared.Pixel.{Pixel}
use Rattle.pixel.specs.Ranges.{Bytes}
use Rattle.palette.specs.Cards.{pixels_of}
use Rattle.swatch.specs.Input.{lines_of, header_of, size_of, pixel_line, pixel_bytes, bytes_of}
use Rattle.swatch.specs.Reading.{most_swatch_pixels, swatch_number}
use Rattle.swatch.specs.Output.{line_in}
use Rattle.swatch.specs.Written.{pixel_figures, written_swatch, MakesSwatch, ReadBack, SwatchRead}
use Rattle.swatch.proofs.LineRead.{first-line, all_lines, line_read, swatch-line}
use Rattle.swatch.proofs.Numbers.{size_is, size-good, number-sized}

abbrev pixel_text : Pixel → List ℕ
pixel_text p = line_in 4 (pixel_figures p)

-- ---- a pixel line
pixel-read : (p : Pixel) → Bytes p → pixel_line (pixel_text p) ≡ some (pixel_figures p)
unfolding pixel_line all
pixel-read p b =
    let fields = swatch-line 4 3 (pixel_text p) refl ∙ line_read 4 (pixel_figures p) (omega arith) (omega (arith, b.red), (omega (arith, b.green), (omega (arith, b.blue), tt))) in
    rw (fields, le-leb p.red 255 (omega (arith, b.red)), le-leb p.green 255 (omega (arith, b.green)), le-leb p.blue 255 (omega (arith, b.blue)))

-- the bytes of pixels are these pixels
pixels-back : (ps : List Pixel) → pixels_of (flat_map (λ row. row) (map pixel_figures ps)) ≡ ps
unfolding pixels_of flat_map
pixels-back [] = refl
pixels-back (p ∷ ps) = ap (λ (qs : List Pixel). p ∷ qs) (pixels-back ps)

-- ---- the whole text
-- a side of a swatch has no more than its pixels
side-small : (a b : ℕ) → 1 ≤ a * b → a * b ≤ most_swatch_pixels → a < 10 ^ 6
unfolding most_swatch_pixels
side-small a zero l m = absurd (omega arith)
side-small a (suc b) l m = omega arith

module _ (width height : ℕ) (ps : List Pixel) (s : MakesSwatch width height ps) where
  text : List ℕ
  text = written_swatch width height ps

  lines_are : lines_of text ≡ line_in 6 (width ∷ height ∷ []) ∷ map pixel_text ps
  unfolding text written_swatch
  lines_are = first-line 6 (width ∷ height ∷ []) (flat_map pixel_text ps) ∙ ap (λ (lines : List (List ℕ)). line_in 6 (width ∷ height ∷ []) ∷ lines) (all_lines 4 pixel_figures ps)

  header_read : header_of text ≡ some (width ∷ height ∷ [])
  unfolding header_of
  header_read =
      let line = line_in 6 (width ∷ height ∷ []) in
      let across : width < 10 ^ 6 = side-small width height s.not_empty s.not_too_many in
      let turned : height * width ≡ width * height = mul_comm height width in
      let down : height < 10 ^ 6 = side-small height width (omega (arith, s.not_empty)) (rw turned s.not_too_many) in
      rw lines_are (swatch-line 6 2 line refl ∙ line_read 6 (width ∷ height ∷ []) (omega arith) (across, (down, tt)))

  bytes_read : pixel_bytes text ≡ some (flat_map (λ row. row) (map pixel_figures ps))
  unfolding pixel_bytes
  bytes_read =
      let rows = whole_each (λ p. pixel_line (pixel_text p)) pixel_figures ps (each-so Bytes _ ps pixel-read (each_from Bytes ps _ s.bytes)) in
      let size : length (map pixel_text ps) ≡ size_of text = length-map ps pixel_text ∙ s.size ∙ sym (size_is text (width ∷ height ∷ []) width height (sym header_read) refl refl) in
      rw (lines_are, eq-eqb (length (map pixel_text ps)) (size_of text) size, map-map pixel_line pixel_text ps, rows)

  accepted : swatch_number text ≡ 0
  accepted =
      let size = size_is text (width ∷ height ∷ []) width height (sym header_read) refl refl in
      number-sized text (width ∷ height ∷ []) header_read
      ∙ rw (size, size-good (width * height) (λ e. omega (arith, s.not_empty)) s.not_too_many, bytes_read)

  read_back : ReadBack width height ps
  unfolding text bytes_of
  read_back = record { header = header_read; accepted = accepted; pixels = rw bytes_read (pixels-back ps) }

pub swatch-read : SwatchRead
swatch-read width height ps s = read_back width height ps s
