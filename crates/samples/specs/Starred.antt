-- The samples that every engine must reproduce, as one table. proofs/Tables has one proof of all its rows. Assumes nothing.
use Rattle.std.specs.Prelude.{true, false, List, [], ◌∷◌, pos}
use Rattle.pooling.specs.Blocks.{increasing}
use Rattle.samples.specs.Rows.{Sample, chroma, measures, fit, line, block, AllHold}

abbrev pub starred : List Sample
starred =
    -- M2, M4: on either side of the grey threshold
    chroma 13 9 0 133
    ∷ measures 13 9 0 1 1 0 true
    ∷ chroma 13 10 0 139
    ∷ measures 13 10 0 1 1 52 false
    -- M8: pure green, blue and red; the half turn; hue 0
    ∷ measures 0 255 0 17 41 5 false
    ∷ measures 0 0 255 17 41 25 false
    ∷ measures 255 0 0 17 41 45 false
    ∷ measures 100 0 200 20 28 30 false
    ∷ measures 100 200 0 20 28 0 false
    -- P2: all bins in one block; a block of one bin and one of two
    ∷ fit increasing (3 ∷ 1 ∷ 2 ∷ []) (block 6 3 ∷ block 6 3 ∷ block 6 3 ∷ [])
    ∷ fit increasing (1 ∷ 3 ∷ 2 ∷ []) (block 1 1 ∷ block 5 2 ∷ block 5 2 ∷ [])
    -- S7: too few counts to keep two modes apart; enough of them up to closeness 13, and not at 14
    ∷ line (pos 0) (0 ∷ 1 ∷ 0 ∷ 1 ∷ 0 ∷ []) (0 ∷ 4 ∷ [])
    ∷ line (pos 0) (0 ∷ 20 ∷ 0 ∷ 20 ∷ 0 ∷ []) (0 ∷ 2 ∷ 4 ∷ [])
    ∷ line (pos 13) (0 ∷ 20 ∷ 0 ∷ 20 ∷ 0 ∷ []) (0 ∷ 2 ∷ 4 ∷ [])
    ∷ line (pos 14) (0 ∷ 20 ∷ 0 ∷ 20 ∷ 0 ∷ []) (0 ∷ 4 ∷ [])
    ∷ []

-- proved in proofs/Tables
abbrev pub StarredHold : Type 0
StarredHold = AllHold starred
