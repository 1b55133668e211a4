-- `first_past_last` returns where the first place past the last bin stands, as `position` finds it.
use Rattle.std.proofs.Common.{◌≡◌, Bool, true, false, List, [], ◌∷◌, ◌+◌, ◌∙◌, refl, sym, add-one, rules}
use Rattle.std.proofs.lemmas.Iterator.{IsFirst-from_position, YieldsList-from_slice, index_from_first}
use Prim.Native.Nat.{ℕ}
use Rattle.lists.specs.Lists.{first_index}
use Rattle.listing.specs.Numbers.{past_last}
use Rattle.listing.proofs.first_past_last.Goals as goal

hit : (test : ℕ → Bool) (x : ℕ) (xs : List ℕ) → test x ≡ true → first_index test (x ∷ xs) ≡ 0
unfolding first_index
hit test x xs e = rw e

miss : (test : ℕ → Bool) (x : ℕ) (xs : List ℕ) → test x ≡ false → first_index test (x ∷ xs) ≡ first_index test xs + 1
unfolding first_index
miss test x xs e = rw e (sym (add-one (first_index test xs)))

none : (test : ℕ → Bool) → first_index test [] ≡ 0
unfolding first_index
none test = refl

pub returns : goal.returns
returns c =
    let test = past_last c.args.ring.opening c.args.ring.bins in
    c.unwrap_or.ensures ∙ sym (index_from_first (first_index test) (λ s. test s ≡ true) (λ s. test s ≡ false) (none test) (hit test) (miss test) c.args.places.now c.position.result
    (IsFirst-from_position _ _ _ (λ s. test s ≡ true) (λ s. test s ≡ false) c.position.ensures.ran (YieldsList-from_slice c.args.places.now cc) (λ x q k. search rules) (λ x q k. search rules)))
