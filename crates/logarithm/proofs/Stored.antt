-- What is on the sheet, at a place. Assumes nothing.
use mathlib.Core.Path.{ap, ◌∙◌}
use Prim.Native.Nat.{◌-◌}
use native.Mathlib.Omega.{arith}
use Rattle.lists.specs.Lists.{numbers}
use Rattle.lists.proofs.Places.{map_at, numbers-at}
use Rattle.lists.proofs.Filters.{numbers-length}
use Rattle.logarithm.specs.Log.{lg}
use Rattle.logarithm.specs.Sheet.{SheetPlaces, sheet_size, log_sheet}

pub sheet-at : SheetPlaces
unfolding log_sheet
sheet-at x a b =
    map_at lg (numbers 1 sheet_size) (x - 1) 0 0 (omega (arith, numbers-length 1 sheet_size))
    ∙ ap lg (numbers-at 1 sheet_size (x - 1) 0 (omega arith) ∙ omega arith)
