-- Between two neighbouring separators the bins rise to the peak and fall after it: otherwise there would be a valley between them. Assumes nothing.
use Prim.Native.Nat.{ℕ, zero, suc, ◌+◌, ◌-◌, ◌≤◌, ◌<◌}
use mathlib.Core.Path.{◌≡◌, refl, sym, ap, ◌∙◌}
use mathlib.Core.Bool.{true, false≢true}
use mathlib.Core.List.{List}
use native.Mathlib.Omega.{arith}
use lib.Dec.{ltb}
use lib.ListN.{length}
use borrow.Author.Tests.{ltb-true, ltb-false}
use Rattle.lists.proofs.Cases.{by_cond, by_order, last_or}
use Rattle.lists.proofs.Filters.{Neighbours}
use Rattle.segmentation.specs.Segments.{bin_at, is_valley, first_highest}
use Rattle.segmentation.proofs.Valleys.{rises_after, rises-level, rises-up, rises-down, rises-end, valley-fell, valley-is}

-- ---- the first highest bin is in range, and highest
module _ (h : List ℕ) (i : ℕ) where
  pub highest-from : (n : ℕ) → i ≤ first_highest h i n
  unfolding first_highest
  highest-from zero = omega arith
  highest-from (suc n) =
      let m = first_highest h i n in
      let r = highest-from n in
      by_cond (λ (k : ℕ). i ≤ k) (ltb (bin_at h m) (bin_at h (i + suc n))) (i + suc n) m (λ e. omega arith) (λ e. r)

  pub highest-to : (n : ℕ) → first_highest h i n ≤ i + n
  unfolding first_highest
  highest-to zero = omega arith
  highest-to (suc n) =
      let m = first_highest h i n in
      let r = highest-to n in
      by_cond (λ (k : ℕ). k ≤ i + suc n) (ltb (bin_at h m) (bin_at h (i + suc n))) (i + suc n) m (λ e. omega arith) (λ e. omega arith)

  pub highest-above : (n k : ℕ) → i ≤ k → k ≤ i + n → bin_at h k ≤ bin_at h (first_highest h i n)
  unfolding first_highest
  highest-above zero k a b = let z : k ≡ i = omega arith in rw z (omega arith)
  highest-above (suc n) k a b =
      let m = first_highest h i n in
      let top = bin_at h (i + suc n) in
      let z : i + suc n ≡ suc (i + n) = omega arith in
      let here : (k ≡ suc (i + n)) → bin_at h k ≡ top = λ y. ap (bin_at h) (y ∙ sym z) in
      by_cond (λ (p : ℕ). bin_at h k ≤ bin_at h p) (ltb (bin_at h m) top) (i + suc n) m
      (λ e. last_or k (i + n) (omega arith) (λ c. omega (arith, highest-above n k a c, ltb-true (bin_at h m) top e)) (λ c. omega (arith, here c)))
      (λ e. last_or k (i + n) (omega arith) (λ c. highest-above n k a c) (λ c. omega (arith, here c, ltb-false (bin_at h m) top e)))

-- the peak of the segment from s to t
abbrev pub peak_of : List ℕ → ℕ → ℕ → ℕ
peak_of h s t = first_highest h s (t - s)

module _ (h : List ℕ) (s t : ℕ) (two : 2 ≤ length h) (n : Neighbours (is_valley h) (length h - 1) s t) where
  pub peak-from : s ≤ peak_of h s t
  peak-from = highest-from h s (t - s)

  pub peak-to : peak_of h s t ≤ t
  peak-to = let b = n.below in omega (arith, highest-to h s (t - s))

  pub peak-above : (k : ℕ) → s ≤ k → k ≤ t → bin_at h k ≤ bin_at h (peak_of h s t)
  peak-above k a b = highest-above h s (t - s) k a (omega arith)

  -- ---- after a fall the bins never rise up to the next separator: the last bin that fell is no valley
  abbrev Fallen : ℕ → Type 0
  Fallen j = (a : ℕ) × (s < a) × (a ≤ j) × (is_valley h a ≡ rises_after h j)

  not-up : (j : ℕ) → j < t → Fallen j → bin_at h (suc j) ≤ bin_at h j
  not-up j m r =
      let w = n.within in
      by_order (bin_at h j) (bin_at h (suc j))
      (λ d. absurd (false≢true (sym (n.none r.0 r.1 (omega (arith, r.2))) ∙ r.3 ∙ rises-up h j (omega arith) d)))
      (λ d. d)

  fallen : (i j : ℕ) → s ≤ i → bin_at h (suc i) < bin_at h i → suc i ≤ j → j < t → Fallen j
  fallen i zero u f l m = absurd (omega arith)
  fallen i (suc j) u f l m =
      let w = n.within in
      last_or (suc i) j l
      (λ k. by_order (bin_at h (suc j)) (bin_at h j)
      (λ d. (suc j, omega arith, omega arith, valley-fell h j (omega arith) d))
      (λ d. let r = fallen i j u f k (omega arith) in
      (r.0, r.1, omega (arith, r.2), r.3 ∙ rises-level h j (omega arith) (omega (arith, not-up j (omega arith) r)))))
      (λ k. let z : i ≡ j = omega arith in (suc j, omega arith, omega arith, valley-fell h j (omega arith) (rw z at f)))

  never-rises : (i j : ℕ) → s ≤ i → bin_at h (suc i) < bin_at h i → suc i ≤ j → j < t → bin_at h (suc j) ≤ bin_at h j
  never-rises i j u f l m = not-up j m (fallen i j u f l m)

  descends : (i j : ℕ) → s ≤ i → bin_at h (suc i) < bin_at h i → suc i ≤ j → j ≤ t → bin_at h j ≤ bin_at h (suc i)
  descends i zero u f l m = absurd (omega arith)
  descends i (suc j) u f l m =
      last_or (suc i) j l
      (λ k. omega (arith, descends i j u f k (omega arith), never-rises i j u f k (omega arith)))
      (λ k. let z : i ≡ j = omega arith in rw z (omega arith))

  -- up to the peak no step goes down
  pub climbs : (i : ℕ) → s ≤ i → i < peak_of h s t → bin_at h i ≤ bin_at h (suc i)
  climbs i u l =
      let p = peak-to in
      by_order (bin_at h (suc i)) (bin_at h i)
      (λ f. absurd (omega (arith, descends i (peak_of h s t) u f l p, peak-above i u (omega arith))))
      (λ d. d)

  -- up to a rise no step goes down
  before-rise : (i k : ℕ) → i < t → bin_at h i < bin_at h (suc i) → s ≤ k → k < i → bin_at h k ≤ bin_at h (suc k)
  before-rise i k l r u v = by_order (bin_at h (suc k)) (bin_at h k) (λ f. absurd (omega (arith, never-rises k i u f v l))) (λ d. d)

  ascends : (i j k : ℕ) → i < t → bin_at h i < bin_at h (suc i) → s ≤ k → k ≤ j → j ≤ i → bin_at h k ≤ bin_at h j
  ascends i zero k l r u v w = let z : k ≡ 0 = omega arith in rw z (omega arith)
  ascends i (suc j) k l r u v w =
      last_or k j v
      (λ c. omega (arith, ascends i j k l r u c (omega arith), before-rise i j l r (omega arith) (omega arith)))
      (λ z. rw z (omega arith))

  -- after the peak no step goes up
  pub falls : (i : ℕ) → peak_of h s t ≤ i → i < t → bin_at h (suc i) ≤ bin_at h i
  falls i u l =
      let p = peak-from in
      by_order (bin_at h i) (bin_at h (suc i))
      (λ r. absurd (omega (arith, ascends i i (peak_of h s t) l r p u (omega arith), peak-above (suc i) (omega arith) l)))
      (λ d. d)

  -- ---- the peak is higher than a separator that is a valley
  pub peak-above-end : t < length h - 1 → bin_at h t < bin_at h (peak_of h s t)
  peak-above-end l = go t refl
    where
      go : (k : ℕ) → t ≡ k → bin_at h t < bin_at h (peak_of h s t)
      go zero z = absurd (omega (arith, n.below))
      go (suc k) z =
          let v = valley-is h k (omega arith) (rw z at (n.ends l)) in
          omega (arith, v.0, peak-above k (omega (arith, n.below)) (omega arith), ap (bin_at h) z)

  -- as long as no bin is higher than the valley s, all are level with it, and a rise is still to come
  level : (j : ℕ) → s < length h - 1 → rises_after h s ≡ true → bin_at h (peak_of h s t) ≤ bin_at h s → s ≤ j → j ≤ t → (bin_at h j ≡ bin_at h s) × (rises_after h j ≡ true)
  level zero l e c a b = let z : zero ≡ s = omega arith in (ap (bin_at h) z, ap (rises_after h) z ∙ e)
  level (suc j) l e c a b =
      last_or s j a
      (λ k. let r = level j l e c k (omega arith) in let w = n.within in
      by_order (bin_at h (suc j)) (bin_at h j)
      (λ d. absurd (false≢true (sym (rises-down h j (omega arith) d) ∙ r.1)))
      (λ d. let q : bin_at h (suc j) ≡ bin_at h j = omega (arith, r.0, peak-above (suc j) (omega arith) b) in
      (q ∙ r.0, sym (rises-level h j (omega arith) q) ∙ r.1)))
      (λ z. (ap (bin_at h) (sym z), ap (rises_after h) (sym z) ∙ e))

  pub peak-above-start : 0 < s → bin_at h s < bin_at h (peak_of h s t)
  peak-above-start l = by_order (bin_at h s) (bin_at h (peak_of h s t)) (λ d. d) (λ d. absurd (go s t refl refl d))
    where
      go : (a b : ℕ) → s ≡ a → t ≡ b → bin_at h (peak_of h s t) ≤ bin_at h s → ⊥
      go zero b y z d = omega arith
      go (suc a) zero y z d = omega (arith, n.below)
      go (suc a) (suc b) y z d =
          let w = n.within in
          let u = n.below in
          let e : rises_after h s ≡ true = rw y (valley-is h a (omega arith) (rw y at (n.starts l))).1 in
          let end = level t (omega arith) e d (omega arith) (omega arith) in
          by_order t (length h - 1)
          (λ k. let v = (valley-is h b (omega arith) (rw z at (n.ends k))).0 in
          let c = (level b (omega arith) e d (omega arith) (omega arith)).0 in
          let f : bin_at h (suc b) ≡ bin_at h s = rw z at end.0 in
          omega arith)
          (λ k. false≢true (sym (rises-end h t (omega arith)) ∙ end.1))

  pub peak-after-start : 0 < s → s < peak_of h s t
  peak-after-start l =
      by_order s (peak_of h s t) (λ d. d)
      (λ d. let z : peak_of h s t ≡ s = omega (arith, peak-from) in absurd (omega (arith, peak-above-start l, ap (bin_at h) z)))

  pub peak-before-end : t < length h - 1 → peak_of h s t < t
  peak-before-end l =
      by_order (peak_of h s t) t (λ d. d)
      (λ d. let z : peak_of h s t ≡ t = omega (arith, peak-to) in absurd (omega (arith, peak-above-end l, ap (bin_at h) z)))
