-- How the code holds segments: in two lists, the first n + 1 separators and the first n peaks. No public promise cites it. Assumes nothing.
use Rattle.std.specs.Prelude.{ℕ, zero, suc, List, [], ◌∷◌, get_or, Option, None, Some}
use Rattle.std.proofs.Math.Option as maybe
use Rattle.segmentation.specs.declared.Segments.{Segments}
use Rattle.segmentation.specs.Segments.{Segment}
use Rattle.segmentation.specs.Joining.{Join}

-- n segments from number i on: each ends where the next one starts
unfoldable pub segments_held : List ℕ → List ℕ → ℕ → ℕ → List Segment
segments_held separators peaks i zero = []
segments_held separators peaks i (suc n) =
    record { start = get_or separators i 0; peak = get_or peaks i 0; end = get_or separators (suc i) 0 } ∷ segments_held separators peaks (suc i) n

-- those that a value of the code's holds
abbrev pub held : {N : ℕ} → Segments N → List Segment
held s = segments_held s.separators s.peaks 0 s.count

-- what the code found, a join or none, as the definitions have it
abbrev pub join_found : Option Join → maybe.Option Join
join_found None = maybe.none
join_found (Some j) = maybe.some j
