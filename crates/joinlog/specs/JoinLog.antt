-- The log of a line's joins: rules J1 to J4. Assumes nothing.
--   joins_made    the joins that a way of joining makes, in turn; made_on_line: those of a line
--   log_of        the numbers that a log has for joins, four for each; line_log: the log of a line
--   same_numbers  whether two logs are the same
--   Follows       joins that follow a way of joining from first to last; joins_applied: what they leave
--   LogSound      what stands behind the log of a line
--   Replayed      what stands behind a log that is followed to its end
--   Departs       what stands behind a log that is not: where it leaves the method
use Rattle.std.specs.Prelude.{ℕ, zero, suc, ◌<◌, ◌≡◌, Bool, true, false, cond, ◌&&◌, List, [], ◌∷◌, ◌++◌, eqb, ℤ, pos, negsuc, length, take}
use Rattle.std.proofs.Math.Option.{Option, none, some}
use Rattle.lists.specs.Lists.{maybe}
use Rattle.verdict.specs.Test.{Closeness}
use Rattle.segmentation.specs.Segments.{Segment, first_segments}
use Rattle.segmentation.specs.declared.Join.{Join}
use Rattle.segmentation.specs.Joining.{line_reader, next_join, Joins, line_joins, line_modes}
-- the four numbers of a record, by name
pub use Rattle.joinlog.specs.declared.JoinRecord.{JoinRecord}

-- J2, S7: each join that comes next, in turn. `join_all` takes the same steps and gives the segments that they leave
unfoldable pub joins_made : ℕ → Joins → List Segment → List Join
joins_made zero w ss = []
joins_made (suc k) w ss = maybe [] (λ j. j ∷ joins_made k w (w.after ss j)) (w.next ss)

-- J2: of a line, from its first segments on
unfoldable pub made_on_line : Closeness → List ℕ → List Join
made_on_line e h = joins_made (length (first_segments h)) (line_joins e (line_reader h)) (first_segments h)

-- J1: the record of a join
abbrev pub record_of : Join → JoinRecord
record_of j = record { first = pos j.first; length = pos j.len; rise = pos (cond j.rise 1 0); cost = j.cost }

-- J1: the record as a log has it
abbrev pub numbers_of : JoinRecord → List ℤ
numbers_of r = r.first ∷ r.length ∷ r.rise ∷ r.cost ∷ []

-- J1, G10: how many numbers that is, and so a place of a log
abbrev pub record_numbers : ℕ
record_numbers = 4

-- J2: the numbers of one record after the other
unfoldable pub log_of : List Join → List ℤ
log_of [] = []
log_of (j ∷ js) = numbers_of (record_of j) ++ log_of js

-- J2: the log of a line
unfoldable pub line_log : Closeness → List ℕ → List ℤ
line_log e h = log_of (made_on_line e h)

-- J3: whether two numbers are the same, sign included
unfoldable pub same_number : ℤ → ℤ → Bool
same_number (pos m) (pos n) = eqb m n
same_number (pos m) (negsuc n) = false
same_number (negsuc m) (pos n) = false
same_number (negsuc m) (negsuc n) = eqb m n

-- J4: the same numbers in the same places, and as many
unfoldable pub same_numbers : List ℤ → List ℤ → Bool
same_numbers [] [] = true
same_numbers [] (y ∷ ys) = false
same_numbers (x ∷ xs) [] = false
same_numbers (x ∷ xs) (y ∷ ys) = same_number x y && same_numbers xs ys

-- J3: each join is the one that comes next, and after the last none does
abbrev pub Follows : Joins → List Join → List Segment → Type 0
Follows w [] ss = w.next ss ≡ none
Follows w (j ∷ js) ss = (w.next ss ≡ some j) × Follows w js (w.after ss j)

-- J3: the segments that are left when the joins are made
unfoldable pub joins_applied : Joins → List Join → List Segment → List Segment
joins_applied w [] ss = ss
joins_applied w (j ∷ js) ss = joins_applied w js (w.after ss j)

-- J3: each join is the one that comes next; after the last there may be more
abbrev pub FollowsSoFar : Joins → List Join → List Segment → Type 0
FollowsSoFar w [] ss = Unit {0}
FollowsSoFar w (j ∷ js) ss = (w.next ss ≡ some j) × FollowsSoFar w js (w.after ss j)

pub record LogSound (e : Closeness) (h : List ℕ) : Type 0 where
  -- J2: it has the joins that the method makes, from first to last
  pub follows : Follows (line_joins e (line_reader h)) (made_on_line e h) (first_segments h)
  -- J4: no other joins follow the method
  pub only : (js : List Join) → Follows (line_joins e (line_reader h)) js (first_segments h) → js ≡ made_on_line e h
  -- J4: they leave the modes
  pub ends : joins_applied (line_joins e (line_reader h)) (made_on_line e h) (first_segments h) ≡ line_modes e h
  -- each join drops a segment or more, so a place for each bin is room enough
  pub few : length (made_on_line e h) < length (first_segments h)

-- J3, J4: the log is that of joins which follow the method one by one, and they leave the modes
pub record Replayed (e : Closeness) (h : List ℕ) (log : List ℤ) : Type 0 where
  pub joins : List Join
  pub spelled : log ≡ log_of joins
  pub follows : Follows (line_joins e (line_reader h)) joins (first_segments h)
  pub ends : joins_applied (line_joins e (line_reader h)) joins (first_segments h) ≡ line_modes e h

-- J3: how the rest of a log leaves the method. Where no join comes next, there are numbers: the log is too long. Where one does, the next four numbers are not its record: they
-- are others, or, if fewer are left, the log stops early
abbrev pub Leaves : Option Join → (rest : List ℤ) → Type 0
Leaves none rest = ¬ (rest ≡ [])
Leaves (some j) rest = ¬ (take record_numbers rest ≡ numbers_of (record_of j))

-- G20, J3: a log that leaves the method, after the records of some joins that are right, or of none
pub record Departs (e : Closeness) (h : List ℕ) (log : List ℤ) : Type 0 where
  pub made : List Join
  pub rest : List ℤ
  pub read : log ≡ log_of made ++ rest
  pub follows : FollowsSoFar (line_joins e (line_reader h)) made (first_segments h)
  pub leaves : Leaves (next_join e (line_reader h) (joins_applied (line_joins e (line_reader h)) made (first_segments h))) rest

-- J2, J4: of every line. Proved in proofs/Always
abbrev pub LogAlwaysSound : Type 0
LogAlwaysSound = (e : Closeness) (h : List ℕ) → LogSound e h

-- J4: every log either is that of the line, and can be followed to its end, or is another one, and leaves the method somewhere
pub record LogDecided (e : Closeness) (h : List ℕ) (log : List ℤ) : Type 0 where
  pub replayed : log ≡ line_log e h → Replayed e h log
  pub only : Replayed e h log → log ≡ line_log e h
  pub departs : ¬ (log ≡ line_log e h) → Departs e h log
  pub never : Departs e h log → ¬ (log ≡ line_log e h)

-- J4: of every line and every log. Proved in proofs/Always
abbrev pub LogAlwaysDecided : Type 0
LogAlwaysDecided = (e : Closeness) (h : List ℕ) (log : List ℤ) → LogDecided e h log
