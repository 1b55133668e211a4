-- Lines of fields are read back: the fields of a line, and the lines of a text. Assumes nothing.
use Prim.Native.Nat.{ℕ, zero, suc, ◌+◌, ◌*◌, ◌/◌, ◌%◌, ◌≤◌, ◌<◌, ◌^◌}
use mathlib.Core.Path.{◌≡◌, refl, ap, ◌∙◌}
use mathlib.Core.Bool.{Bool, true, false, cond, ◌&&◌}
use mathlib.Core.List.{List, [], ◌∷◌, ◌++◌, map, flat_map, append_assoc, map-map, map-id}
use mathlib.Core.Option.{some}
use native.Mathlib.Omega.{arith}
use borrow.Author.Tests.{eq-eqb, ne_eqb}
use lib.Dec.{ltb, eqb}
use lib.ListN.{length, get_or}
use lib.Seq.{take_at, drop_at, get_or-append_seam}
use Rattle.lists.specs.Lists.{whole}
use Rattle.lists.proofs.Each.{Each, each-so}
use Rattle.lists.proofs.Missing.{whole_each}
use Rattle.swatch.specs.Input.{line_feed, space, digit_zero, lines_of, field, pieces, fields_of}
use Rattle.swatch.specs.Output.{printed_in, line_in}
use Rattle.swatch.specs.Written.{fields_in}
use Rattle.swatch.proofs.PrintedLengths.{field-length, fields-length, line-in-length}
use Rattle.swatch.proofs.Fields.{Clear, clear-append}
use Rattle.swatch.proofs.FieldRead.{field-read}

-- ---- no line feed but the last
column-clear : (blank : Bool) (d : ℕ) → eqb (cond blank space (digit_zero + d)) line_feed ≡ false
column-clear true d = refl
column-clear false d = ne_eqb (digit_zero + d) line_feed (λ e. omega arith)

clear-printed : (w v : ℕ) → Clear (printed_in w v)
unfolding printed_in
clear-printed zero v = tt
clear-printed (suc w) v = (column-clear (ltb 0 w && ltb v (10 ^ w)) (v / 10 ^ w % 10), clear-printed w v)

clear-all : (w : ℕ) (vs : List ℕ) → Clear (flat_map (printed_in w) vs)
unfolding flat_map
clear-all w [] = tt
clear-all w (v ∷ vs) = clear-append (printed_in w v) (flat_map (printed_in w) vs) (clear-printed w v) (clear-all w vs)

line-ended : (cs rest : List ℕ) → Clear cs → lines_of (cs ++ line_feed ∷ rest) ≡ (cs ++ line_feed ∷ []) ∷ lines_of rest
unfolding lines_of
line-ended [] rest k = refl
line-ended (c ∷ cs) rest k = rw (k.0, line-ended cs rest k.1)

-- so a line of fields in front of a text is its first line
pub first-line : (w : ℕ) (vs rest : List ℕ) → lines_of (line_in w vs ++ rest) ≡ line_in w vs ∷ lines_of rest
unfolding line_in
first-line w vs rest = ap lines_of (append_assoc (flat_map (printed_in w) vs) (line_feed ∷ []) rest) ∙ line-ended (flat_map (printed_in w) vs) rest (clear-all w vs)

pub all_lines : {A : Type 0} (w : ℕ) (f : A → List ℕ) (xs : List A) → lines_of (flat_map (λ x. line_in w (f x)) xs) ≡ map (λ x. line_in w (f x)) xs
unfolding lines_of flat_map
all_lines w f [] = refl
all_lines w f (x ∷ xs) = first-line w (f x) (flat_map (λ y. line_in w (f y)) xs) ∙ ap (λ (lines : List (List ℕ)). line_in w (f x) ∷ lines) (all_lines w f xs)

-- ---- the fields of a line
abbrev pub Below : ℕ → List ℕ → Type 0
Below most vs = Each (λ v. v < most) vs

pieces-read : (w : ℕ) (vs rest : List ℕ) → pieces w (length vs) (flat_map (printed_in w) vs ++ rest) ≡ map (printed_in w) vs
unfolding pieces flat_map
pieces-read w [] rest = refl
pieces-read w (v ∷ vs) rest =
    let after = flat_map (printed_in w) vs ++ rest in
    rw (append_assoc (printed_in w v) (flat_map (printed_in w) vs) rest, take_at (printed_in w v) after w (field-length w v), drop_at (printed_in w v) after w (field-length w v), pieces-read w vs rest)

columns-read : (w : ℕ) (vs : List ℕ) → 1 ≤ w → Below (10 ^ w) vs → whole (map field (pieces w (length vs) (line_in w vs))) ≡ some vs
unfolding line_in
columns-read w vs z h =
    ap (λ (ps : List (List ℕ)). whole (map field ps)) (pieces-read w vs (line_feed ∷ [])) ∙ ap whole (map-map field (printed_in w) vs)
    ∙ whole_each (λ v. field (printed_in w v)) (λ v. v) vs (each-so (λ v. v < 10 ^ w) _ vs (λ v l. field-read w v z l) h) ∙ ap some (map-id vs)

last-column : (w : ℕ) (vs : List ℕ) → get_or (line_in w vs) (w * length vs) 0 ≡ line_feed
unfolding line_in
last-column w vs = rw (← fields-length w vs) (get_or-append_seam (flat_map (printed_in w) vs) line_feed [] 0)

pub line_read : (w : ℕ) (vs : List ℕ) → 1 ≤ w → Below (10 ^ w) vs → fields_in w (length vs) (line_in w vs) ≡ some vs
unfolding fields_in
line_read w vs z h = rw (eq-eqb (length (line_in w vs)) (w * length vs + 1) (line-in-length w vs), eq-eqb _ line_feed (last-column w vs)) (columns-read w vs z h)

-- the lines of a swatch have 12 columns
pub swatch-line : (w n : ℕ) (line : List ℕ) → w * n ≡ 12 → fields_of w n line ≡ fields_in w n line
unfolding fields_of fields_in
swatch-line w n line e = rw e
