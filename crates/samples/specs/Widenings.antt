-- Labels of one byte that are widened; each comment says what its rows pin down. proofs/Tables has one proof of them all. Assumes nothing.
use Rattle.std.specs.Prelude.{List, [], ◌∷◌}
use Rattle.lists.specs.Lists.{numbers}
use Rattle.samples.specs.Rows.{Sample, widen, AllHold}

abbrev pub widenings : List Sample
widenings =
    -- each number unchanged, in its place: the least, the greatest, and no number taken for the end of a list
    widen (0 ∷ 255 ∷ 0 ∷ 1 ∷ []) (1000 ∷ 1000 ∷ 1000 ∷ 1000 ∷ []) 0 (0 ∷ 255 ∷ 0 ∷ 1 ∷ [])
    -- every byte is a label
    ∷ widen (numbers 0 256) (numbers 256 256) 0 (numbers 0 256)
    -- two empty lists are as long as each other
    ∷ widen [] [] 0 []
    -- a list that is longer or shorter by one is turned down, and stays as lent
    ∷ widen [] (7 ∷ []) 9 (7 ∷ [])
    ∷ widen (255 ∷ []) [] 9 []
    ∷ widen (1 ∷ 2 ∷ []) (600 ∷ 600 ∷ 600 ∷ []) 9 (600 ∷ 600 ∷ 600 ∷ [])
    ∷ widen (1 ∷ 2 ∷ 3 ∷ []) (600 ∷ 600 ∷ []) 9 (600 ∷ 600 ∷ [])
    -- so is one of as many bytes instead of as many labels
    ∷ widen (1 ∷ 2 ∷ []) (600 ∷ 600 ∷ 600 ∷ 600 ∷ []) 9 (600 ∷ 600 ∷ 600 ∷ 600 ∷ [])
    ∷ []

-- proved in proofs/Tables
abbrev pub WideningsHold : Type 0
WideningsHold = AllHold widenings
