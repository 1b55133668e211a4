-- Rows that plausible misreadings of the rules get wrong; each comment says what its rows pin down. proofs/Tables has one proof of them all. Assumes nothing.
use Rattle.std.specs.Prelude.{true, false, List, [], ◌∷◌, pos}
use Rattle.pooling.specs.Blocks.{increasing, decreasing}
use Rattle.samples.specs.Rows.{Sample, measures, logarithm, fit, mass, verdict, asked, line, modes, in_line, dip, minus, block, mode, AllHold}

abbrev pub guards : List Sample
guards =
    -- an intensity bin is 15 wide, and its lower end belongs to it
    measures 14 0 0 0 2 45 false
    ∷ measures 15 0 0 1 2 45 false
    -- the largest measures
    ∷ measures 255 255 255 51 0 0 true
    -- a full turn ends below 360°
    ∷ measures 101 200 1 20 28 59 false
    -- bits of the logarithm are cut off, not rounded
    ∷ logarithm 1 0
    ∷ logarithm 2 67108864
    ∷ logarithm 3 106365032
    ∷ logarithm 4294967295 2147483647
    -- the last number on the sheet, the first past it, and one whose odd part is on it
    ∷ logarithm 1024 671088640
    ∷ logarithm 1025 671183142
    ∷ logarithm 2046 738102909
    -- a mean is a sum and a length, not a whole number
    ∷ fit increasing (2 ∷ 1 ∷ []) (block 3 2 ∷ block 3 2 ∷ [])
    -- equal means share a block
    ∷ fit increasing (2 ∷ 2 ∷ []) (block 4 2 ∷ block 4 2 ∷ [])
    ∷ fit decreasing (2 ∷ 2 ∷ []) (block 4 2 ∷ block 4 2 ∷ [])
    -- after a merge the fit looks further: a bin that merges with two blocks if the bins are taken from the last, and one that does if they are taken from the first
    ∷ fit increasing (4 ∷ 1 ∷ 2 ∷ 3 ∷ []) (block 7 3 ∷ block 7 3 ∷ block 7 3 ∷ block 3 1 ∷ [])
    ∷ fit increasing (1 ∷ 2 ∷ 3 ∷ 0 ∷ []) (block 1 1 ∷ block 5 3 ∷ block 5 3 ∷ block 5 3 ∷ [])
    -- decreasing: the same
    ∷ fit decreasing (0 ∷ 3 ∷ 2 ∷ 1 ∷ []) (block 5 3 ∷ block 5 3 ∷ block 5 3 ∷ block 1 1 ∷ [])
    ∷ fit decreasing (3 ∷ 2 ∷ 1 ∷ 4 ∷ []) (block 3 1 ∷ block 7 3 ∷ block 7 3 ∷ block 7 3 ∷ [])
    -- in one block B is its length, not its length squared
    ∷ mass increasing (4 ∷ 2 ∷ 1 ∷ []) 0 1 14 3
    -- across blocks B is the product of the two lengths, not their least common multiple
    ∷ mass increasing (4 ∷ 3 ∷ 1 ∷ 10 ∷ 9 ∷ 0 ∷ []) 1 4 162 9
    ∷ verdict (pos 0) increasing (4 ∷ 3 ∷ 1 ∷ 10 ∷ 9 ∷ 0 ∷ []) (pos 404017655) true
    -- every part is tested, not only the whole stretch
    ∷ verdict (pos 0) increasing (20 ∷ 0 ∷ []) (pos 1235812248) true
    -- a cost of exactly 0 rejects
    ∷ verdict (pos 0) increasing (155 ∷ 1183 ∷ 1090 ∷ []) (pos 0) true
    -- one more closeness raises the bar by one bit
    ∷ verdict (pos 1) increasing (155 ∷ 1183 ∷ 1090 ∷ []) (minus 67108864) false
    -- a stretch that is monotone in the tested direction costs minus the bar
    ∷ verdict (pos 0) increasing (1 ∷ 2 ∷ 2 ∷ []) (minus 173473896) false
    -- one bin is never rejected, even at a cost of 0
    ∷ verdict (pos 0) increasing (5 ∷ []) (pos 0) false
    -- a negative closeness lowers the bar: here to one bit, and the cost is exactly 0
    ∷ verdict (minus 1) increasing (1 ∷ 0 ∷ 0 ∷ []) (pos 0) true
    -- the bar may be below 0. Then a stretch without a step against its fit is accepted at a cost above 0, and one with such a step is not
    ∷ verdict (minus 10) increasing (0 ∷ 1 ∷ []) (pos 564723608) false
    ∷ verdict (minus 10) increasing (1 ∷ 0 ∷ []) (pos 631832472) true
    ∷ verdict (minus 10) decreasing (1 ∷ 0 ∷ []) (pos 564723608) false
    -- equal bins are no step, in either direction
    ∷ verdict (minus 10) increasing (3 ∷ 3 ∷ 3 ∷ []) (pos 497614744) false
    ∷ verdict (minus 10) decreasing (3 ∷ 3 ∷ 3 ∷ []) (pos 497614744) false
    -- one step against the fit is enough, the first or the last
    ∷ verdict (minus 10) increasing (2 ∷ 1 ∷ 2 ∷ []) (pos 510071348) true
    ∷ verdict (minus 10) decreasing (2 ∷ 1 ∷ 2 ∷ []) (pos 510071348) true
    -- at −10 nothing joins in 44 bins; a stretch of 45 has a bar above 0
    ∷ line (minus 10) (dip 22 21) (0 ∷ 22 ∷ 43 ∷ [])
    ∷ line (minus 10) (dip 22 22) (0 ∷ 44 ∷ [])
    -- −10 to 20 are served, and no other closeness
    ∷ asked (minus 11) (0 ∷ 1 ∷ []) 8
    ∷ asked (minus 10) (0 ∷ 1 ∷ []) 0
    ∷ asked (pos 20) (0 ∷ 1 ∷ []) 0
    ∷ asked (pos 21) (0 ∷ 1 ∷ []) 8
    -- the first bin of a run of equal bins
    ∷ line (pos 0) (3 ∷ 0 ∷ 0 ∷ 3 ∷ []) (0 ∷ 1 ∷ 3 ∷ [])
    -- the higher neighbours of a run are the bins past its ends
    ∷ line (pos 0) (3 ∷ 0 ∷ 0 ∷ 3 ∷ 2 ∷ 2 ∷ []) (0 ∷ 1 ∷ 5 ∷ [])
    -- the first highest bin of a plateau is the peak
    ∷ modes (pos 0) (4 ∷ 0 ∷ 4 ∷ 4 ∷ []) (mode 0 0 1 ∷ mode 1 2 3 ∷ [])
    -- a kept peak need not be the highest bin
    ∷ modes (pos 0) (93 ∷ 71 ∷ 94 ∷ 71 ∷ []) (mode 0 0 3 ∷ [])
    -- the smaller of the two costs counts, and it may be the rise's or the fall's
    ∷ modes (pos 0) (1 ∷ 0 ∷ 4 ∷ []) (mode 0 2 2 ∷ [])
    ∷ modes (pos 0) (4 ∷ 0 ∷ 1 ∷ []) (mode 0 0 2 ∷ [])
    -- a run that costs exactly 0 is not joined
    ∷ line (pos 14) (294 ∷ 164 ∷ 1442 ∷ []) (0 ∷ 1 ∷ 2 ∷ [])
    -- of equal costs, the fall
    ∷ line (pos 0) (0 ∷ 5 ∷ 2 ∷ 5 ∷ 0 ∷ 4 ∷ []) (0 ∷ 5 ∷ [])
    -- of equal costs, the leftmost run
    ∷ line (pos 0) (5 ∷ 0 ∷ 1 ∷ 0 ∷ 5 ∷ []) (0 ∷ 3 ∷ 4 ∷ [])
    -- the lowest cost, not the first one below 0
    ∷ line (pos 0) (5 ∷ 0 ∷ 3 ∷ 2 ∷ 5 ∷ []) (0 ∷ 1 ∷ 4 ∷ [])
    -- a longer run may be joined where no pair can
    ∷ modes (pos 0) (0 ∷ 5 ∷ 0 ∷ 5 ∷ 0 ∷ 5 ∷ 0 ∷ []) (mode 0 1 6 ∷ [])
    -- after a join the search starts again with runs of 2
    ∷ line (pos 0) (5 ∷ 0 ∷ 5 ∷ 0 ∷ 5 ∷ 0 ∷ 5 ∷ []) (0 ∷ 6 ∷ [])
    -- the last bin of a line lies in its last mode, and no bin after it
    ∷ in_line (pos 0) (1 ∷ 0 ∷ 4 ∷ []) 0 2 true
    ∷ in_line (pos 0) (1 ∷ 0 ∷ 4 ∷ []) 0 3 false
    ∷ []

-- proved in proofs/Tables
abbrev pub GuardsHold : Type 0
GuardsHold = AllHold guards
