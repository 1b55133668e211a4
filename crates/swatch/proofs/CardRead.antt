-- A printed card shows its figures. Assumes nothing.
use Prim.Native.Nat.{ℕ, ◌/◌, ◌≤◌, ◌<◌, ◌^◌}
use mathlib.Core.Path.{◌≡◌, sym, ap, ◌∙◌}
use mathlib.Core.List.{List, [], ◌∷◌, ◌++◌, map, flat_map, map-map, map-id}
use mathlib.Core.Option.{Option, some}
use native.Mathlib.Omega.{arith}
use native.Mathlib.Nat.{mul-add-div}
use lib.Dec.{leb→le}
use lib.IntN.{pos}
use lib.ListN.{length, get_or}
use Rattle.lists.specs.Lists.{whole}
use Rattle.lists.proofs.Each.{Each, each_from, each_at, each-so}
use Rattle.lists.proofs.Flattened.{flat_map_map, each_map}
use Rattle.lists.proofs.Missing.{whole_each}
use Rattle.verdict.specs.Test.{most_closeness}
use Rattle.palette.specs.declared.Entry.{Entry}
use Rattle.palette.specs.Cards.{entries, most_entries, no_entry}
use Rattle.palette.specs.Sound.{most_pixels}
use Rattle.palette.specs.Figures.{EntryBounds}
use Rattle.palette.proofs.Bounds.{figures-bounded}
use Rattle.swatch.specs.Output.{printed_line, entry_figures, printed_entry, printed_card}
use Rattle.swatch.specs.Written.{fields_in, figures_in, card_figures, SmallFigures, LinesRead, CardRead}
use Rattle.swatch.proofs.PrintedLengths.{line-length}
use Rattle.swatch.proofs.LineRead.{Below, all_lines, line_read}

-- ---- lines of figures
row_read : (vs : List ℕ) → Below (10 ^ 6) vs → fields_in 6 (length (printed_line vs) / 6) (printed_line vs) ≡ some vs
row_read vs h =
    let n : length (printed_line vs) / 6 ≡ length vs = ap (λ (k : ℕ). k / 6) (line-length vs) ∙ mul-add-div {m = 6} (omega arith) (length vs) 1 ∙ omega arith in
    rw n (line_read 6 vs (omega arith) h)

rows-read : (rows : List (List ℕ)) → Each (Below (10 ^ 6)) rows → figures_in (flat_map printed_line rows) ≡ some rows
unfolding figures_in
rows-read rows h =
    let reader : List ℕ → Option (List ℕ) = λ line. fields_in 6 (length line / 6) line in
    ap (λ (lines : List (List ℕ)). whole (map reader lines)) (all_lines 6 (λ (vs : List ℕ). vs) rows) ∙ ap whole (map-map reader printed_line rows)
    ∙ whole_each (λ vs. reader (printed_line vs)) (λ vs. vs) rows (each-so (Below (10 ^ 6)) _ rows row_read h) ∙ ap some (map-id rows)

rows-small : (rows : List (List ℕ)) → Each (Below (10 ^ 6)) rows → SmallFigures rows
rows-small rows h i j l m = each_at (λ v. v < 10 ^ 6) (get_or rows i []) 0 (each_at (Below (10 ^ 6)) rows [] h i l) j m

pub lines-read : LinesRead
lines-read rows h = rows-read rows (each_from (Below (10 ^ 6)) rows [] (λ i l. each_from (λ v. v < 10 ^ 6) (get_or rows i []) 0 (λ j m. h i j l m)))

-- ---- a card
card-lines : (pixels closeness : ℕ) (es : List Entry) → printed_card pixels closeness es ≡ flat_map printed_line (card_figures pixels closeness es)
unfolding printed_card printed_entry flat_map
card-lines pixels closeness es = ap (λ (cs : List ℕ). printed_line (length es ∷ pixels ∷ closeness ∷ []) ++ cs) (sym (flat_map_map printed_line entry_figures es))

entry-small : (pixels : ℕ) (t : Entry) → pixels < 10 ^ 6 → EntryBounds pixels t → Below (10 ^ 6) (entry_figures t)
entry-small pixels t l b = (
  omega (arith, b.kind),
  (omega (arith, b.hue), (omega (arith, b.saturation), (omega (arith, b.intensity), (omega (arith, b.red), (omega (arith, b.green), (omega (arith, b.blue), (omega (arith, b.count), tt))))))),
)

pub card-read : CardRead
unfolding most_closeness most_pixels most_entries
card-read e ps bytes k few least =
    let es = entries (pos e) ps in
    let close : e ≤ 20 = leb→le e 20 k.le in
    let each : Each (Below (10 ^ 6)) (map entry_figures es) =
    each_map (Below (10 ^ 6)) entry_figures es
    (each-so (EntryBounds (length ps)) _ es (λ t b. entry-small (length ps) t (omega arith) b) (each_from (EntryBounds (length ps)) es no_entry (figures-bounded (pos e) ps bytes))) in
    let rows : Each (Below (10 ^ 6)) (card_figures (length ps) e es) = ((omega arith, (omega arith, (omega arith, tt))), each) in
    record {
      small = rows-small (card_figures (length ps) e es) rows;
      figures = ap figures_in (card-lines (length ps) e es) ∙ rows-read (card_figures (length ps) e es) rows;
    }
