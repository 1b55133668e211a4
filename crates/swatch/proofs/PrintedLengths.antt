-- How many bytes a field, a line, an entry and a card have in print. Assumes nothing.
use Prim.Native.Nat.{ℕ, zero, suc, ◌+◌, ◌*◌}
use mathlib.Core.Path.{◌≡◌, refl, ap, ◌∙◌}
use mathlib.Core.List.{List, [], ◌∷◌, flat_map}
use native.Mathlib.Omega.{arith}
use lib.ListN.{length, length-append}
use Rattle.lists.proofs.Pieces.{flat-length}
use Rattle.palette.specs.declared.Entry.{Entry}
use Rattle.swatch.specs.Input.{line_feed}
use Rattle.swatch.specs.Output.{printed_in, line_in, printed_line, entry_figures, printed_entry, printed_card, printed_most, PrintedLength, CardFits}

pub field-length : (w v : ℕ) → length (printed_in w v) ≡ w
unfolding printed_in
field-length zero v = refl
field-length (suc w) v = ap suc (field-length w v)

pub fields-length : (w : ℕ) (vs : List ℕ) → length (flat_map (printed_in w) vs) ≡ w * length vs
fields-length w vs = flat-length (printed_in w) w (field-length w) vs

pub line-in-length : (w : ℕ) (vs : List ℕ) → length (line_in w vs) ≡ w * length vs + 1
unfolding line_in
line-in-length w vs = length-append (flat_map (printed_in w) vs) (line_feed ∷ []) ∙ omega (arith, fields-length w vs)

pub line-length : (vs : List ℕ) → length (printed_line vs) ≡ 6 * length vs + 1
line-length = line-in-length 6

pub entry_length : (t : Entry) → length (printed_entry t) ≡ 49
unfolding printed_entry
entry_length t = line-length (entry_figures t)

pub printed-length : PrintedLength
unfolding printed_card
printed-length pixels closeness es =
    length-append (printed_line (length es ∷ pixels ∷ closeness ∷ [])) (flat_map printed_entry es)
    ∙ omega (arith, line-length (length es ∷ pixels ∷ closeness ∷ []), flat-length printed_entry 49 entry_length es)

pub printed-fits : CardFits
unfolding printed_most
printed-fits pixels closeness es h = omega (arith, printed-length pixels closeness es)
