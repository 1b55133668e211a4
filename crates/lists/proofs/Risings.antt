-- A list that rises is the list of the numbers that it contains, from the lowest up. Assumes nothing.
use Prim.Native.Nat.{ℕ, zero, suc, ◌+◌, ◌≤◌, ◌<◌}
use mathlib.Core.Path.{◌≡◌, refl, sym, ap, ◌∙◌}
use mathlib.Core.Bool.{Bool, true, false, cond}
use mathlib.Core.List.{List, [], ◌∷◌, ◌++◌}
use native.Mathlib.Omega.{arith}
use lib.Dec.{ltb, eqb}
use lib.ListN.{length, get_or}
use borrow.Author.Tests.{eqb-true, eq-eqb, ne_eqb, ltb-true, lt-ltb}
use Rattle.lists.specs.Lists.{numbers, filter, count_if, contains, Rising}
use Rattle.lists.proofs.Cases.{by_order}
use Rattle.lists.proofs.Filters.{filter_same}
use Rattle.lists.proofs.Counting.{count_none, count-append, member-counted}

-- ---- lists that rise
pub rising-up : (xs : List ℕ) → Rising xs → (i j : ℕ) → i ≤ j → j < length xs → get_or xs i 0 ≤ get_or xs j 0
rising-up xs r i zero l k = let z : i ≡ 0 = omega arith in rw z (omega arith)
rising-up xs r i (suc j) l k =
    by_order i (suc j)
    (λ a. omega (arith, rising-up xs r i j (omega arith) (omega arith), r j k))
    (λ a. let z : i ≡ suc j = omega arith in rw z (omega arith))

-- ---- what stands in a list
contains-none : (xs : List ℕ) (b : ℕ) → ((i : ℕ) → i < length xs → b < get_or xs i 0) → contains xs b ≡ false
unfolding contains
contains-none xs b f = ap (ltb 0) (count_none (eqb b) xs 0 (λ i l. ne_eqb b (get_or xs i 0) (λ e. omega (arith, f i l))))

contains-first : (x : ℕ) (xs : List ℕ) (b : ℕ) → b ≡ x → contains (x ∷ xs) b ≡ true
unfolding contains count_if
contains-first x xs b e = rw (eq-eqb b x e) (lt-ltb 0 (1 + count_if (eqb b) xs) (omega arith))

contains-later : (x : ℕ) (xs : List ℕ) (b : ℕ) → x < b → contains (x ∷ xs) b ≡ contains xs b
unfolding contains count_if
contains-later x xs b l =
    let z : 0 + count_if (eqb b) xs ≡ count_if (eqb b) xs = omega arith in
    rw (ne_eqb b x (λ e. omega arith), z) refl

-- it does not matter which of two lists comes first
pub contains-turned : (xs ys : List ℕ) (b : ℕ) → contains (xs ++ ys) b ≡ contains (ys ++ xs) b
unfolding contains
contains-turned xs ys b =
    let q : count_if (eqb b) (xs ++ ys) ≡ count_if (eqb b) (ys ++ xs) = omega (arith, count-append (eqb b) xs ys, count-append (eqb b) ys xs) in
    ap (ltb 0) q

-- a number that stands in a list has a place there
contains-at : (xs : List ℕ) (b : ℕ) → contains xs b ≡ true → (i : ℕ) × (i < length xs) × (get_or xs i 0 ≡ b)
unfolding contains count_if
contains-at [] b t = absurd (omega (arith, ltb-true 0 0 t))
contains-at (x ∷ xs) b t = go (eqb b x) refl t (contains-at xs b)
  where
    go : (q : Bool) → eqb b x ≡ q → ltb 0 (cond q 1 0 + count_if (eqb b) xs) ≡ true
        → (contains xs b ≡ true → (i : ℕ) × (i < length xs) × (get_or xs i 0 ≡ b)) → (i : ℕ) × (i < suc (length xs)) × (get_or (x ∷ xs) i 0 ≡ b)
    go true q t f = (0, omega arith, sym (eqb-true b x q))
    go false q t f =
        let r = f (lt-ltb 0 (count_if (eqb b) xs) (omega (arith, ltb-true 0 (0 + count_if (eqb b) xs) t))) in
        let l = r.1 in
        (suc r.0, omega arith, r.2)

-- what stands in a list stands in another of the same numbers
pub same_at : (xs ys : List ℕ) → ((b : ℕ) → contains xs b ≡ contains ys b) → (i : ℕ) → i < length xs → (j : ℕ) × (j < length ys) × (get_or ys j 0 ≡ get_or xs i 0)
unfolding contains
same_at xs ys same i l = let b = get_or xs i 0 in contains-at ys b (sym (same b) ∙ lt-ltb 0 (count_if (eqb b) xs) (member-counted xs i l))

-- ---- the numbers that a list contains
-- of tests that agree from a number on
filter-from : (test test' : ℕ → Bool) (from n : ℕ) → ((b : ℕ) → from ≤ b → test b ≡ test' b) → filter test (numbers from n) ≡ filter test' (numbers from n)
unfolding filter numbers
filter-from test test' from zero f = refl
filter-from test test' from (suc n) f = rw (f from (omega arith), filter-from test test' (suc from) n (λ b l. f b (omega arith)))

filter_none : (from n : ℕ) → filter (contains []) (numbers from n) ≡ []
unfolding filter numbers contains count_if
filter_none from zero = refl
filter_none from (suc n) = filter_none (suc from) n

pub rising-is : (xs : List ℕ) (from n : ℕ) → Rising xs → (0 < length xs → from ≤ get_or xs 0 0) → ((i : ℕ) → i < length xs → get_or xs i 0 < from + n)
    → filter (contains xs) (numbers from n) ≡ xs
unfolding filter numbers
rising-is [] from n r low high = filter_none from n
rising-is (x ∷ xs) from zero r low high = absurd (omega (arith, low (omega arith), high 0 (omega arith)))
rising-is (x ∷ xs) from (suc n) r low high =
    by_order from x
    (λ l.
    let out = contains-none (x ∷ xs) from (λ i k. omega (arith, rising-up (x ∷ xs) r 0 i (omega arith) k)) in
    rw out (rising-is (x ∷ xs) (suc from) n r (λ k. l) (λ i k. omega (arith, high i k))))
    (λ l.
    let e : x ≡ from = omega (arith, low (omega arith)) in
    let here = contains-first x xs from (sym e) in
    let above : (b : ℕ) → suc from ≤ b → contains (x ∷ xs) b ≡ contains xs b = λ b k. contains-later x xs b (omega arith) in
    rw (
      here,
      filter-from (contains (x ∷ xs)) (contains xs) (suc from) n above,
      rising-is xs (suc from) n (λ i k. r (suc i) (omega arith)) (λ k. omega (arith, r 0 (omega arith))) (λ i k. omega (arith, high (suc i) (omega arith))),
    )
    (ap (λ (z : ℕ). z ∷ xs) (sym e)))

-- another list of the same numbers may stand for it
pub rising-of : (xs ys : List ℕ) (n : ℕ) → ((b : ℕ) → contains ys b ≡ contains xs b) → Rising xs → ((i : ℕ) → i < length xs → get_or xs i 0 < n)
    → filter (contains ys) (numbers 0 n) ≡ xs
rising-of xs ys n same r high = filter_same (contains ys) (contains xs) (numbers 0 n) same ∙ rising-is xs 0 n r (λ k. omega arith) (λ i l. omega (arith, high i l))
