-- Rings that plausible misreadings of the rules get wrong; each comment says what its rows pin down. proofs/Tables has one proof for each of the two tables. Assumes nothing.
use Rattle.std.specs.Prelude.{List, [], ◌∷◌, pos}
use Rattle.samples.specs.Rows.{Sample, round, ring, minus, mode, AllHold}

abbrev pub rings : List Sample
rings =
    -- a ring opened away from bin 0, at the first of equal lowest bins; separators by its own numbers from the lowest up, modes from the opening
    ring (pos 0) (9 ∷ 1 ∷ 9 ∷ 0 ∷ 9 ∷ 0 ∷ []) (1 ∷ 3 ∷ 5 ∷ []) (1 ∷ 2 ∷ 2 ∷ 0 ∷ 0 ∷ 1 ∷ [])
    -- a flat minimum across the seam
    ∷ ring (pos 0) (0 ∷ 0 ∷ 9 ∷ 1 ∷ 9 ∷ 0 ∷ []) (0 ∷ 3 ∷ []) (0 ∷ 0 ∷ 0 ∷ 1 ∷ 1 ∷ 1 ∷ [])
    -- the list begins with the lowest bin number, wherever the modes begin
    ∷ ring (pos 0) (2 ∷ 50 ∷ 9 ∷ 0 ∷ 50 ∷ 3 ∷ 60 ∷ []) (0 ∷ 3 ∷ 5 ∷ []) (2 ∷ 2 ∷ 2 ∷ 0 ∷ 0 ∷ 1 ∷ 1 ∷ [])
    -- mode 0 starts at the first separator at or after the opening; the bins before it lie in the last mode
    ∷ ring (minus 2) (2 ∷ 0 ∷ 2 ∷ 7 ∷ 0 ∷ 7 ∷ 0 ∷ []) (4 ∷ 6 ∷ []) (1 ∷ 1 ∷ 1 ∷ 1 ∷ 0 ∷ 0 ∷ 1 ∷ [])
    -- opened at bin 1, which is no separator any more; the list begins with bin 3, and so does mode 0
    ∷ ring (pos 1) (94 ∷ 78 ∷ 144 ∷ 78 ∷ 143 ∷ 78 ∷ 78 ∷ 118 ∷ 78 ∷ []) (3 ∷ 5 ∷ []) (1 ∷ 1 ∷ 1 ∷ 0 ∷ 0 ∷ 1 ∷ 1 ∷ 1 ∷ 1 ∷ [])
    ∷ []

-- proved in proofs/Tables
abbrev pub RingsHold : Type 0
RingsHold = AllHold rings

abbrev pub joins_round : List Sample
joins_round =
    -- runs go past the opening, and the ring may be left with one separator, which need not be the opening
    round (pos 0) (0 ∷ 4 ∷ 0 ∷ 0 ∷ 4 ∷ []) (mode 2 6 7 ∷ [])
    -- a full turn has the bin of its separator at both ends
    ∷ round (pos 0) (0 ∷ 4 ∷ 0 ∷ 0 ∷ 9 ∷ []) (mode 2 4 7 ∷ [])
    -- one join round the ring may follow another
    ∷ round (pos 3) (8 ∷ 0 ∷ 8 ∷ 0 ∷ 8 ∷ 0 ∷ 0 ∷ []) (mode 4 10 11 ∷ [])
    -- runs of more than two; of equal costs, the run that starts soonest after the opening
    ∷ round (minus 1) (0 ∷ 3 ∷ 0 ∷ 7 ∷ 0 ∷ 3 ∷ []) (mode 2 3 8 ∷ [])
    -- the lowest cost round the ring, not the first one below 0
    ∷ round (minus 2) (0 ∷ 3 ∷ 0 ∷ 3 ∷ 0 ∷ 0 ∷ 3 ∷ 3 ∷ []) (mode 4 6 12 ∷ [])
    -- after a join round the ring the search starts again with runs of 2
    ∷ round (minus 1) (4 ∷ 0 ∷ 4 ∷ 0 ∷ 4 ∷ 0 ∷ 0 ∷ 4 ∷ 0 ∷ []) (mode 4 12 13 ∷ [])
    -- of a run past the opening too, a rise keeps the last peak, a fall the first
    ∷ round (minus 1) (7 ∷ 0 ∷ 3 ∷ 0 ∷ 4 ∷ 0 ∷ 0 ∷ 7 ∷ []) (mode 4 6 12 ∷ [])
    -- after a join past the opening, a run that ends with its mode may be joinable
    ∷ round (minus 1) (85 ∷ 85 ∷ 60 ∷ 85 ∷ 60 ∷ 60 ∷ 98 ∷ 60 ∷ []) (mode 2 4 10 ∷ [])
    -- the line is finished before any run is taken round
    ∷ round (pos 0) (12 ∷ 0 ∷ 5 ∷ 0 ∷ 0 ∷ 5 ∷ 0 ∷ 12 ∷ []) (mode 2 6 10 ∷ [])
    -- the order of equals is by places from the opening, not by bin numbers
    ∷ round (pos 0) (35 ∷ 5 ∷ 17 ∷ 4 ∷ 17 ∷ 5 ∷ []) (mode 2 3 8 ∷ [])
    -- of equal costs round the ring, the fall
    ∷ round (minus 1) (6 ∷ 2 ∷ 2 ∷ 0 ∷ 2 ∷ 2 ∷ 6 ∷ 0 ∷ 7 ∷ 0 ∷ []) (mode 6 7 16 ∷ [])
    ∷ []

-- proved in proofs/Tables
abbrev pub JoinsRoundHold : Type 0
JoinsRoundHold = AllHold joins_round
