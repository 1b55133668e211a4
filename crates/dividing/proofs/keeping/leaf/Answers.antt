-- A store past the room changes nothing.
use Rattle.std.proofs.Common.{◌≡◌, ◌≤◌, ◌∙◌, ℕ, List, length, refl, sym, ap, map, arith}
use Rattle.std.proofs.Math.ListN.{set, length-map}
use Rattle.std.proofs.lemmas.List.{map-set, set_past}
use Rattle.dividing.specs.declared.keeping.CodedRange.{CodedRange}
use Rattle.dividing.proofs.keeping.leaf.Goals as goal
use Rattle.dividing.proofs.keeping.leaf.Goals.{then-found-ranges, else-found-ranges}

stored : (f : CodedRange → ℕ) (rs old : List CodedRange) (i : ℕ) (r : CodedRange) → rs ≡ set old i r → map f rs ≡ set (map f old) i (f r)
stored f rs old i r e = ap (map f) e ∙ map-set f old i r

past : (f : CodedRange → ℕ) (rs old : List CodedRange) (i : ℕ) (v : ℕ) → rs ≡ old → length old ≤ i → map f rs ≡ set (map f old) i v
past f rs old i v e h = ap (map f) e ∙ sym (set_past (map f old) i v (omega (arith, length-map old f)))

pub returns : goal.returns
returns c =
    let rs = c.if-found-ranges.ranges in
    let old = c.args.ranges.now in
    elim c.if-found-ranges.branch [
      | then-found-ranges w ↦ (refl, stored (λ r. r.code) rs old c.args.found _ w.ranges-is, stored (λ r. r.size) rs old c.args.found _ w.ranges-is)
      | else-found-ranges w ↦ (refl, past (λ r. r.code) rs old c.args.found c.args.code w.ranges-is w.if-found-ranges.false, past (λ r. r.size) rs old c.args.found c.args.size w.ranges-is w.if-found-ranges.false)
    ]
