-- Black beside red, from the text of the swatch to the printed text. Assumes nothing.
use Rattle.std.specs.Prelude.{ℕ, ◌≡◌, List, [], ◌∷◌, ◌++◌, replicate}
use Rattle.kistrovu.specs.Answers.{printed}

-- a field: n spaces, and then these bytes
abbrev pub spaced : ℕ → List ℕ → List ℕ
spaced n bytes = replicate n 32 ++ bytes

-- two pixels in a row, 0 0 0 and 255 0 0
abbrev pub black_beside_red : List ℕ
black_beside_red =
    spaced 5 (50 ∷ []) ++ spaced 5 (49 ∷ 10 ∷ [])
    ++ spaced 3 (48 ∷ []) ++ spaced 3 (48 ∷ []) ++ spaced 3 (48 ∷ 10 ∷ [])
    ++ spaced 1 (50 ∷ 53 ∷ 53 ∷ []) ++ spaced 3 (48 ∷ []) ++ spaced 3 (48 ∷ 10 ∷ [])

-- two entries of one pixel each, every figure in 6 columns
abbrev pub its_card : List ℕ
its_card =
    spaced 5 (50 ∷ []) ++ spaced 5 (50 ∷ []) ++ spaced 5 (48 ∷ 10 ∷ [])
    ++ spaced 5 (48 ∷ []) ++ spaced 5 (48 ∷ []) ++ spaced 5 (48 ∷ []) ++ spaced 5 (48 ∷ [])
    ++ spaced 5 (48 ∷ []) ++ spaced 5 (48 ∷ []) ++ spaced 5 (48 ∷ []) ++ spaced 5 (49 ∷ 10 ∷ [])
    ++ spaced 5 (49 ∷ []) ++ spaced 5 (48 ∷ []) ++ spaced 5 (48 ∷ []) ++ spaced 5 (48 ∷ [])
    ++ spaced 3 (50 ∷ 53 ∷ 53 ∷ []) ++ spaced 5 (48 ∷ []) ++ spaced 5 (48 ∷ []) ++ spaced 5 (49 ∷ 10 ∷ [])

-- proved in proofs/Example
abbrev pub PrintsItsCard : Type 0
PrintsItsCard = printed black_beside_red ≡ its_card
