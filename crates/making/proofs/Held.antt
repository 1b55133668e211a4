-- The figures of the entries as the code keeps them, and of those that a card holds. Assumes nothing.
use Rattle.std.proofs.Common.{◌≡◌, ◌≤◌, ◌<◌, ◌∙◌, ℕ, List, length, take, get_or, map, refl, sym, ap}
use Rattle.std.proofs.Math.ListN.{get_or-map}
use borrow.Author.Tests.{le-leb, lt-leb}
use Rattle.lists.proofs.Parts.{take-map}
use Rattle.palette.specs.Cards.{most_entries}
use Rattle.dividing.specs.declared.keeping.CodedRange.{CodedRange}
use Rattle.dividing.specs.Keeping.{codes_of, sizes_of}
use Rattle.making.specs.Making.{held_of, held_figures, labels_by}

abbrev pub no_range : CodedRange
no_range = record { code = 0; size = 0 }

pub size_at : (rs : List CodedRange) (k : ℕ) → get_or (sizes_of rs) k 0 ≡ (get_or rs k no_range).size
size_at rs k = get_or-map (λ (r : CodedRange). r.size) rs k no_range

pub code_at : (rs : List CodedRange) (k : ℕ) → get_or (codes_of rs) k 0 ≡ (get_or rs k no_range).code
code_at rs k = get_or-map (λ (r : CodedRange). r.code) rs k no_range

pub held-all : (n : ℕ) → n ≤ most_entries → held_of n ≡ n
unfolding held_of
held-all n h = rw (le-leb n most_entries h) refl

pub held-none : (n : ℕ) → most_entries < n → held_of n ≡ 0
unfolding held_of
held-none n h = rw (lt-leb n most_entries h) refl

pub held-figures : (f : CodedRange → ℕ) (rs held : List CodedRange) (n : ℕ) → n ≤ most_entries → held ≡ take n rs → map f held ≡ held_figures n (map f rs)
held-figures f rs held n h q = ap (map f) q ∙ sym (take-map f n rs) ∙ ap (λ (k : ℕ). take k (map f rs)) (sym (held-all n h))

-- with too many entries no label is given
pub none-labelled : (sizes xs lent : List ℕ) (n : ℕ) → most_entries < n → lent ≡ labels_by (held_figures n sizes) xs (length (held_figures n sizes)) lent
unfolding labels_by
none-labelled sizes xs lent n h = rw (held-none n h) refl
