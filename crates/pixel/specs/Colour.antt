-- The measures of a pixel: rules M1 to M9. Assumes nothing.
--   chroma_squared                             Q; is_grey: by Q
--   intensity_bin, saturation_bin, hue_bin     the three measures; measures_of: all of them
--   hue_point, quarter, turned_back, hue_of    (u, v), its quarter, (a, b), and the bin of a coloured pixel; hue_at: the bin once it is turned back
--   saturation_of, tangents_passed, turned_of  the steps on the way: from Q; from (a, b); quarter, a and b in one
use Rattle.std.specs.Prelude.{ℕ, zero, suc, ◌+◌, ◌*◌, ◌-◌, ◌/◌, Bool, cond, ◌&&◌, List, [], ◌∷◌, leb, ℤ, pos, neg_ℤ, nat_abs}
use Rattle.std.proofs.Math.IntN.{sub_ℕ}
use Rattle.std.specs.Int.Signed.{le_z, lt_z}
use Rattle.lists.specs.Lists.{count_if, largest_that}
use Rattle.pixel.specs.declared.Pixel.{Pixel}
use Rattle.pixel.specs.declared.Measures.{Measures}
use Rattle.pixel.specs.declared.Turned.{Turned}

-- M1, M3 and M8: how many bins each measure has
abbrev pub intensity_count : ℕ
intensity_count = 52

abbrev pub saturation_count : ℕ
saturation_count = 42

abbrev pub hue_count : ℕ
hue_count = 60

-- M1: the sum of the three bytes, in bins 15 wide
unfoldable pub intensity_bin : Pixel → ℕ
intensity_bin p = (p.red + p.green + p.blue) / 15

-- M2: Q, which is never negative (ChromaWhole). The square of the saturation is 2Q/3
unfoldable pub chroma_squared : Pixel → ℕ
chroma_squared p =
    p.red * p.red + p.green * p.green + p.blue * p.blue
    - (p.red * p.green + p.green * p.blue + p.blue * p.red)

-- M3: saturation in steps of 5
unfoldable pub saturation_of : ℕ → ℕ
saturation_of q = largest_that (λ j. leb (75 * (j * j)) (2 * q)) 41

unfoldable pub saturation_bin : Pixel → ℕ
saturation_bin p = saturation_of (chroma_squared p)

-- M4: so little saturation that hue is noise
unfoldable pub is_grey : Pixel → Bool
is_grey p = leb (chroma_squared p) 136

-- M8: the tangents of 6°, 12° and so on to 84°, in millionths
unfoldable pub tangents : List ℕ
tangents =
    105104 ∷ 212556 ∷ 324919 ∷ 445228 ∷ 577350 ∷ 726542 ∷ 900404 ∷ 1110612 ∷ 1376381 ∷ 1732050 ∷ 2246036 ∷ 3077683 ∷ 4704630 ∷ 9514364 ∷ []

pub record Point : Type 0 where
  pub x : ℤ
  pub y : ℤ

-- M5: the hue point (u, v)
unfoldable pub hue_point : Pixel → Point
hue_point p = record {
  x = sub_ℕ (1732051 * p.green) (1732051 * p.blue);
  y = sub_ℕ (1000000 * (p.green + p.blue)) (1000000 * (2 * p.red));
}

-- M6: each quarter includes one of the two half-axes that bound it. No coloured pixel lies at the origin
unfoldable pub quarter : Point → ℕ
quarter c =
    cond (lt_z (pos 0) c.x && le_z (pos 0) c.y) 0
    (cond (le_z c.x (pos 0) && lt_z (pos 0) c.y) 1
    (cond (lt_z c.x (pos 0) && le_z c.y (pos 0)) 2 3))

-- M7: n quarter turns back
unfoldable pub turned_back : ℕ → Point → Point
turned_back zero c = c
turned_back (suc n) c = turned_back n (record { x = c.y; y = neg_ℤ c.x })

-- M7: the quarter of a point, and (a, b). Neither a nor b is negative (Ranges), so each is its own absolute value
unfoldable pub turned_of : Point → Turned
turned_of c =
    let d = turned_back (quarter c) c in
    record { quarter = quarter c; a = nat_abs d.x; b = nat_abs d.y }

-- M8: how many tangents the slope b/a reaches
unfoldable pub tangents_passed : ℕ → ℕ → ℕ
tangents_passed a b = count_if (λ t. leb (t * a) (b * 1000000)) tangents

-- M8: fifteen bins in a quarter
unfoldable pub hue_at : Turned → ℕ
hue_at t = 15 * t.quarter + tangents_passed t.a t.b

unfoldable pub hue_of : Point → ℕ
hue_of c = hue_at (turned_of c)

-- M9: a grey has no hue, and gets bin 0
unfoldable pub hue_bin : Pixel → ℕ
hue_bin p = cond (is_grey p) 0 (hue_of (hue_point p))

-- M9: all four
unfoldable pub measures_of : Pixel → Measures
measures_of p = record { intensity = intensity_bin p; saturation = saturation_bin p; hue = hue_bin p; grey = is_grey p }
