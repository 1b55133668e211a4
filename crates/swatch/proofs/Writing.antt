-- Lists written one after the other through parts of a buffer: over the part where they go, or from its first place on. Assumes nothing.
use Rattle.std.proofs.Common.{ℕ, ◌-◌, ◌≤◌, ◌≡◌, List, ◌++◌, length, take, drop, sym, ap, ◌∙◌, arith, append_assoc, append-nil, length-append, take_at, drop_at, drop-drop, take_all}
use lib.ListN.{drop_of_length-le}
use borrow.Rule.Slice.PartMut.{put_mid}
use Rattle.lists.specs.Lists.{over}

module _ {A : Type 0} (xs ys buffer : List A) (a k : ℕ) (e : a ≡ length xs) where
  rest : List A
  rest = drop (length xs) buffer

  joined : xs ++ (ys ++ drop (length ys) rest) ≡ over (xs ++ ys) buffer
  unfolding over rest
  joined =
      sym (append_assoc xs ys (drop (length ys) rest))
      ∙ ap (λ z. (xs ++ ys) ++ z) (drop-drop (length ys) (length xs) buffer ∙ ap (λ n. drop n buffer) (sym (length-append xs ys)))

  front : take a (over xs buffer) ≡ xs
  unfolding over rest
  front = take_at xs rest a (sym e)

  behind : drop a (over xs buffer) ≡ rest
  unfolding over rest
  behind = drop_at xs rest a (sym e)

  -- the part has as many places as the list
  pub put-piece : k ≡ length ys → put_mid a k (over xs buffer) ys ≡ over (xs ++ ys) buffer
  put-piece f = ap (λ z. z ++ (ys ++ drop k (drop a (over xs buffer)))) front ∙ ap (λ z. xs ++ (ys ++ drop k z)) behind ∙ ap (λ n. xs ++ (ys ++ drop n rest)) f ∙ joined

  put-rest : (zs : List A) → a ≤ length buffer → k ≡ length (over xs buffer) - a → zs ≡ over ys (take k (drop a (over xs buffer))) → put_mid a k (over xs buffer) zs ≡ over (xs ++ ys) buffer
  unfolding over rest
  put-rest zs l f h =
      let long : k ≡ length rest = omega (arith, length-append xs rest) in
      ap (λ z. z ++ (zs ++ drop k (drop a (over xs buffer)))) front
      ∙ ap (λ z. xs ++ (zs ++ drop k z)) behind
      ∙ ap (λ z. xs ++ (zs ++ z)) (drop_of_length-le rest {i = k} (omega arith))
      ∙ ap (λ z. xs ++ z) (append-nil zs ∙ h ∙ ap (λ z. over ys (take k z)) behind ∙ ap (λ z. over ys z) (take_all k rest (omega arith)))
      ∙ joined

  -- the part goes on to the end of what the buffer has become, and the list is written into its first places
  pub write-rest : (out zs : List A) → out ≡ over xs buffer → a ≤ length buffer → k ≡ length out - a → zs ≡ over ys (take k (drop a out)) → put_mid a k out zs ≡ over (xs ++ ys) buffer
  write-rest out zs o l f h = rw o (put-rest zs l (rw o at f) (rw o at h))
