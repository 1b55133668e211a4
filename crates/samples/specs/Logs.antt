-- Logs of lines that plausible misreadings of the rules get wrong; each comment says what its rows pin down. proofs/Tables has one proof of them all. Assumes nothing.
use Rattle.std.specs.Prelude.{true, false, List, [], ◌∷◌, pos}
use Rattle.samples.specs.Rows.{Sample, joins, replay, minus, fall, rise, AllHold}

abbrev pub logs : List Sample
logs =
    -- one join, by the fall if both cost the same; the cost is that of the stretch
    joins (pos 0) (0 ∷ 1 ∷ 0 ∷ 1 ∷ 0 ∷ []) (fall 0 2 (minus 167225428) [])
    -- nothing joins: the log is empty, and so it is where there is a single segment
    ∷ joins (pos 13) (0 ∷ 20 ∷ 0 ∷ 20 ∷ 0 ∷ []) []
    ∷ joins (pos 0) (0 ∷ 0 ∷ []) []
    -- a join of its own for each step, and numbers as they are just before it: what is joined first is segment 0 again
    ∷ joins (pos 0) (1 ∷ 0 ∷ 1 ∷ 0 ∷ 1 ∷ 0 ∷ 1 ∷ []) (fall 0 2 (minus 167225428) (fall 0 2 (minus 241807612) (fall 0 2 (minus 270903359) [])))
    -- a run of three is one join
    ∷ joins (pos 0) (0 ∷ 5 ∷ 0 ∷ 5 ∷ 0 ∷ 5 ∷ 0 ∷ []) (fall 0 3 (minus 29984332) [])
    -- after the first join the segments behind it have lower numbers: those joined next were 2 and 3 at first
    ∷ joins (pos 0) (0 ∷ 3 ∷ 2 ∷ 30 ∷ 0 ∷ 30 ∷ 2 ∷ 3 ∷ 0 ∷ []) (rise 0 2 (minus 217359996) (fall 1 2 (minus 217359996) []))
    -- a rise, and a fall after it
    ∷ joins (pos 2) (1 ∷ 0 ∷ 1 ∷ 0 ∷ 0 ∷ 1 ∷ 1 ∷ []) (rise 1 2 (minus 317892381) (fall 0 2 (minus 345423075) []))
    -- a replay accepts the log itself and nothing less, nothing more and nothing else: no prefix, no number behind it, no other first segment, length, kind or cost
    ∷ replay (pos 0) (0 ∷ 1 ∷ 0 ∷ 1 ∷ 0 ∷ []) (fall 0 2 (minus 167225428) []) true
    ∷ replay (pos 0) (0 ∷ 1 ∷ 0 ∷ 1 ∷ 0 ∷ []) [] false
    ∷ replay (pos 0) (0 ∷ 1 ∷ 0 ∷ 1 ∷ 0 ∷ []) (pos 0 ∷ pos 2 ∷ pos 0 ∷ []) false
    ∷ replay (pos 0) (0 ∷ 1 ∷ 0 ∷ 1 ∷ 0 ∷ []) (fall 0 2 (minus 167225428) (pos 0 ∷ [])) false
    ∷ replay (pos 0) (0 ∷ 1 ∷ 0 ∷ 1 ∷ 0 ∷ []) (fall 0 2 (minus 167225428) (fall 0 2 (minus 1) [])) false
    ∷ replay (pos 0) (0 ∷ 1 ∷ 0 ∷ 1 ∷ 0 ∷ []) (fall 1 2 (minus 167225428) []) false
    ∷ replay (pos 0) (0 ∷ 1 ∷ 0 ∷ 1 ∷ 0 ∷ []) (fall 0 3 (minus 167225428) []) false
    ∷ replay (pos 0) (0 ∷ 1 ∷ 0 ∷ 1 ∷ 0 ∷ []) (rise 0 2 (minus 167225428) []) false
    ∷ replay (pos 0) (0 ∷ 1 ∷ 0 ∷ 1 ∷ 0 ∷ []) (pos 0 ∷ pos 2 ∷ pos 2 ∷ minus 167225428 ∷ []) false
    ∷ replay (pos 0) (0 ∷ 1 ∷ 0 ∷ 1 ∷ 0 ∷ []) (fall 0 2 (minus 167225427) []) false
    ∷ replay (pos 0) (0 ∷ 1 ∷ 0 ∷ 1 ∷ 0 ∷ []) (fall 0 2 (pos 167225428) []) false
    ∷ replay (pos 0) (0 ∷ 1 ∷ 0 ∷ 1 ∷ 0 ∷ []) (fall 4294967296 2 (minus 167225428) []) false
    -- an empty log, where nothing joins
    ∷ replay (pos 13) (0 ∷ 20 ∷ 0 ∷ 20 ∷ 0 ∷ []) [] true
    ∷ []

-- proved in proofs/Tables
abbrev pub LogsHold : Type 0
LogsHold = AllHold logs
