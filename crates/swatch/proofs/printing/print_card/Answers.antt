-- The line of an entry behind those that are printed. Assumes nothing.
use Rattle.std.proofs.Common.{arith, refl, ℕ, List, ◌≡◌, ◌+◌, ◌-◌, ◌∷◌, [], ◌++◌, sym, ap, ◌∙◌, add-one, length, take, drop, get_or, take_all, length-take-le, length-take, length-drop, length-append, append_assoc, append-nil}
use mathlib.Core.List.{flat_map}
use Rattle.lists.specs.Lists.{over}
use Rattle.lists.proofs.Flattened.{flat_map_more}
use Rattle.lists.proofs.Pieces.{flat-length}
use Rattle.palette.specs.declared.Entry.{Entry}
use Rattle.palette.specs.Cards.{most_entries, no_entry}
use Rattle.swatch.specs.Output.{printed_line, printed_entry, printed_card, printed_most}
use Rattle.swatch.proofs.PrintedLengths.{line-length, entry_length, printed-length}
use Rattle.swatch.proofs.Writing.{write-rest}
use Rattle.swatch.proofs.printing.print_card.Goals as goal

pub overflow_cast-entries : goal.overflow_cast-entries
unfolding most_entries
overflow_cast-entries c = omega (arith, c.requires)

pub put_line-len-requires : goal.put_line-len-requires
unfolding printed_most most_entries
put_line-len-requires c = omega (arith, c.requires)

pub loop-entry-init : goal.loop-entry-init
unfolding flat_map
loop-entry-init c =
    let line = printed_line (length c.args.entries.now ∷ c.args.pixels ∷ c.args.closeness ∷ []) in
    (c.put_line-len.ensures.len ∙ line-length _, c.put_line-len.ensures.text ∙ ap (λ (xs : List ℕ). over xs c.args.out.now) (sym (append-nil line)))

pub slice_bounds-put_line-count : goal.slice_bounds-put_line-count
unfolding printed_most most_entries
slice_bounds-put_line-count c = omega (arith, c.loop-entry.invariant.0, c.loop-entry.auto.out, c.put_line-len.auto.out, c.requires)

pub slice_bounds-put_line-start : goal.slice_bounds-put_line-start
unfolding printed_most most_entries
slice_bounds-put_line-start c = omega (arith, c.loop-entry.invariant.0, c.loop-entry.auto.out, c.put_line-len.auto.out, c.requires)

pub put_line-len-requires-in-loop-entry : goal.put_line-len-requires-in-loop-entry
unfolding printed_most most_entries
put_line-len-requires-in-loop-entry c =
    omega (
      arith,
      ap length c.figures.ensures,
      length-take (length c.loop-entry.out - c.loop-entry.len) (drop c.loop-entry.len c.loop-entry.out),
      length-drop c.loop-entry.len c.loop-entry.out,
      c.loop-entry.invariant.0,
      c.loop-entry.auto.out,
      c.put_line-len.auto.out,
      c.requires,
    )

pub overflow_add-len : goal.overflow_add-len
unfolding most_entries
overflow_add-len c =
    omega (arith, c.loop-entry.invariant.0, c.put_line-len-in-loop-entry.ensures.len, line-length c.figures.result, ap length c.figures.ensures, c.requires)

pub loop-entry-preserved : goal.loop-entry-preserved
unfolding printed_entry printed_most most_entries
loop-entry-preserved c =
    let i = c.loop-entry.entry-index in
    let es = c.args.entries.now in
    let entry = get_or es i no_entry in
    let line = printed_line (length es ∷ c.args.pixels ∷ c.args.closeness ∷ []) in
    let written = line ++ flat_map printed_entry (take i es) in
    let len : c.loop-entry.len ≡ length written =
    omega (arith, c.loop-entry.invariant.0, length-append line (flat_map printed_entry (take i es)), line-length (length es ∷ c.args.pixels ∷ c.args.closeness ∷ []), flat-length printed_entry 49 entry_length (take i es), length-take-le i es (omega arith)) in
    let last = c.put_line-len-in-loop-entry.ensures.text ∙ ap (λ (fs : List ℕ). over (printed_line fs) (take (length c.loop-entry.out - c.loop-entry.len) (drop c.loop-entry.len c.loop-entry.out))) c.figures.ensures in
    let more : written ++ printed_entry entry ≡ line ++ flat_map printed_entry (take (i + 1) es) =
    append_assoc line (flat_map printed_entry (take i es)) (printed_entry entry) ∙ ap (λ (xs : List ℕ). line ++ xs) (sym (ap (λ (n : ℕ). flat_map printed_entry (take n es)) (add-one i) ∙ flat_map_more printed_entry es i no_entry c.loop-entry-test.true)) in (
      omega (arith, c.loop-entry.invariant.0, c.put_line-len-in-loop-entry.ensures.len, line-length c.figures.result, ap length c.figures.ensures),
      write-rest written (printed_entry entry) c.args.out.now c.loop-entry.len _ len c.loop-entry.out c.put_line-len-in-loop-entry.new.out c.loop-entry.invariant.1 (omega (arith, c.loop-entry.invariant.0, c.requires)) refl last
          ∙ ap (λ (xs : List ℕ). over xs c.args.out.now) more,
    )

pub returns-clause-text : goal.returns-clause-text
unfolding printed_card
returns-clause-text c =
    let es = c.args.entries.now in
    let line = printed_line (length es ∷ c.args.pixels ∷ c.args.closeness ∷ []) in
    c.loop-entry.invariant.1 ∙ ap (λ (rest : List Entry). over (line ++ flat_map printed_entry rest) c.args.out.now) (take_all c.loop-entry.entry-index es c.loop-entry-test.false)

pub returns-clause-len : goal.returns-clause-len
returns-clause-len c = omega (arith, c.loop-entry.invariant.0, printed-length c.args.pixels c.args.closeness c.args.entries.now)
