-- The figures of the entries that are found. No public promise cites it. Assumes nothing.
use Rattle.std.specs.Prelude.{ℕ, List, map}
use Rattle.dividing.specs.declared.keeping.CodedRange.{CodedRange}

abbrev pub codes_of : List CodedRange → List ℕ
codes_of rs = map (λ (r : CodedRange). r.code) rs

abbrev pub sizes_of : List CodedRange → List ℕ
sizes_of rs = map (λ (r : CodedRange). r.size) rs
