-- What a turn does to the bins of a ring: each has one new place and keeps what it holds. Assumes nothing.
use Prim.Native.Nat.{ℕ, suc, ◌+◌, ◌*◌, ◌-◌, ◌/◌, ◌%◌, ◌<◌}
use mathlib.Core.Path.{◌≡◌, refl, sym, ap, ◌∙◌}
use mathlib.Core.Bool.{Bool, true, false}
use mathlib.Core.List.{List, map}
use native.Mathlib.Omega.{arith}
use native.Mathlib.Nat.{mod-lt, mod-add-mod, mod-add-div, add-mul-mod_self_left}
use lib.Dec.{ltb, eqb}
use lib.ListN.{length, get_or}
use borrow.Author.Tests.{eqb-true, eqb-false, eq-eqb, ne_eqb}
use Rattle.lists.specs.Lists.{contains}
use Rattle.lists.proofs.Each.{each_from}
use Rattle.lists.proofs.Counting.{count_map, count_same}
use Rattle.lists.proofs.Rotations.{mod_below, turned-length, turned-at, turned-total}
use Rattle.segmentation.specs.Segments.{bin_at}
use Rattle.listing.specs.Turning.{turned, turned_bin, AlwaysTurned}

module _ (k : ℕ) (h : List ℕ) where
  -- how many bins come after those that move to the front
  abbrev stay : ℕ
  stay = length h - k % length h

  pub same_length : length (turned k h) ≡ length h
  unfolding turned
  same_length = turned-length h stay (omega arith)

  -- bin c of the turned ring was this bin of the ring
  abbrev pub former_bin : ℕ → ℕ
  former_bin c = (stay + c) % length h

  pub former-holds : (c : ℕ) → c < length h → bin_at (turned k h) c ≡ bin_at h (former_bin c)
  unfolding turned
  former-holds c l = turned-at h stay (omega arith) c 0 l

  -- moving by k and then by `stay` makes whole turns
  whole-turns : (x y : ℕ) → x < length h → y ≡ x + (stay + k) → y % length h ≡ x
  whole-turns x y l q =
      let n = length h in
      let rest = mod-lt k {m = n} (omega arith) in
      let parts = mod-add-div k n in
      let whole : n * suc (k / n) ≡ n + n * (k / n) = omega arith in
      let e : y ≡ x + n * suc (k / n) = omega arith in
      ap (λ (z : ℕ). z % n) e ∙ add-mul-mod_self_left x n (suc (k / n)) ∙ mod_below x n l

  pub turned-back : (b : ℕ) → b < length h → former_bin (turned_bin k h b) ≡ b
  turned-back b l =
      let n = length h in
      let e : stay + (b + k) % n ≡ (b + k) % n + stay = omega arith in
      ap (λ (z : ℕ). z % n) e ∙ mod-add-mod (b + k) n stay ∙ whole-turns b (b + k + stay) l (omega arith)

  pub turned-again : (c : ℕ) → c < length h → turned_bin k h (former_bin c) ≡ c
  turned-again c l = mod-add-mod (stay + c) (length h) k ∙ whole-turns c (stay + c + k) l (omega arith)

  pub bin-moved : (b : ℕ) → b < length h → bin_at (turned k h) (turned_bin k h b) ≡ bin_at h b
  bin-moved b l = former-holds (turned_bin k h b) (mod-lt (b + k) (omega arith)) ∙ ap (bin_at h) (turned-back b l)

  -- ---- what stands in a list of bins stands, turned, in the turned list
  turned_apart : (a b : ℕ) → a < length h → b < length h → eqb (turned_bin k h a) (turned_bin k h b) ≡ eqb a b
  turned_apart a b l m = go (eqb a b) refl
    where
      go : (t : Bool) → eqb a b ≡ t → eqb (turned_bin k h a) (turned_bin k h b) ≡ t
      go true q = eq-eqb (turned_bin k h a) (turned_bin k h b) (ap (turned_bin k h) (eqb-true a b q))
      go false q = ne_eqb (turned_bin k h a) (turned_bin k h b) (λ p. eqb-false a b q (sym (turned-back a l) ∙ ap former_bin p ∙ turned-back b m))

  pub contains-moved : (bins : List ℕ) → ((i : ℕ) → i < length bins → get_or bins i 0 < length h) → (b : ℕ) → b < length h
      → contains (map (turned_bin k h) bins) (turned_bin k h b) ≡ contains bins b
  unfolding contains
  contains-moved bins below b l =
      ap (ltb 0) (count_map (eqb (turned_bin k h b)) (turned_bin k h) bins
      ∙ count_same (λ x. eqb (turned_bin k h b) (turned_bin k h x)) (eqb b) bins
      (each_from (λ x. eqb (turned_bin k h b) (turned_bin k h x) ≡ eqb b x) bins 0 (λ i m. turned_apart b (get_or bins i 0) l (below i m))))

pub always-turned : AlwaysTurned
unfolding turned
always-turned k h = record {
  same_length = same_length k h;
  same_total = turned-total h (length h - k % length h);
  moved = bin-moved k h;
}
