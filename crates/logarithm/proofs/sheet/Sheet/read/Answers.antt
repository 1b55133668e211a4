use Rattle.std.proofs.Common.{◌≡◌, ℕ, ◌+◌, ◌-◌, List, get_or, ap, ap₂, ◌∙◌, arith, rules}
use Rattle.logarithm.specs.Log.{lg, units_per_bit, round_count}
use Rattle.logarithm.specs.Sheet.{sheet_size}
use Rattle.logarithm.proofs.Stored.{sheet-at}
use Rattle.logarithm.proofs.Laws.{lg-below}
use Rattle.logarithm.proofs.sheet.Sheet.read.Goals as goal
use Rattle.logarithm.proofs.sheet.Sheet.read.Goals.{After-units}

pub offset_bounds-self-place : goal.offset_bounds-self-place
unfolding sheet_size
offset_bounds-self-place c = search rules

pub bounds-self-place : goal.bounds-self-place
unfolding sheet_size
bounds-self-place c = search rules

-- what is read
read_is : (c : After-units) → c.from.result ≡ lg c.args.p.odd
read_is c =
    c.from.ensures ∙ ap (λ (xs : List ℕ). get_or xs (c.args.p.odd - 1) 0) c.args.self.now.stored ∙ sheet-at c.args.p.odd c.requires.0 c.requires.1

pub overflow_add-result : goal.overflow_add-result
unfolding units_per_bit round_count sheet_size
overflow_add-result c =
    omega (arith, read_is c, lg-below c.args.p.odd (record { low = c.requires.0; high = omega arith }), c.units.ensures)

pub returns : goal.returns
returns c = ap₂ (λ (a b : ℕ). a + b) (read_is c) c.units.ensures
