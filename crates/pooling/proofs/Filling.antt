-- The places of blocks, and lists of one figure of each bin's block, written block by block from the first. Assumes nothing.
use mathlib.Core.Path.{◌≡◌, refl, sym, ◌∙◌, ap}
use mathlib.Core.List.{List, [], ◌∷◌, ◌++◌, map, map-append, append_assoc}
use Prim.Native.Nat.{ℕ, ◌+◌, ◌≤◌, ◌<◌}
use native.Mathlib.Omega.{arith}
use lib.ListN.{length, take, drop, replicate, length-append, length-drop, length-map, length-replicate}
use lib.Seq.{length-take-le, take_all, take_at, take-add, drop-drop, drop_at}
use borrow.Rule.Slice.PartMut.{put_mid}
use Rattle.std.proofs.lemmas.Slice.{take-put_mid, drop-put_mid}
use Rattle.lists.specs.Lists.{over}
use Rattle.lists.proofs.Buffers.{over_none, over-more}
use Rattle.lists.proofs.Parts.{take-map}
use Rattle.lists.proofs.Repeats.{map-replicate}
use Rattle.pooling.specs.Blocks.{Block, Direction, Place, blocks, fitted, places_from, places}
use Rattle.pooling.specs.Stack.{stack_of, bins_in}
use Rattle.pooling.proofs.Basics.{Full}
use Rattle.pooling.proofs.Cuts.{cut-bins, cut-full}
use Rattle.pooling.proofs.Laws.{blocks-cut}
use Rattle.pooling.proofs.Places.{places-length, places-blocks}
use Rattle.pooling.proofs.Stacking.{block_at, stack-length, stack_top}

-- there are no more blocks than bins
full-few : (bs : List Block) → Full bs → length bs ≤ bins_in bs
unfolding bins_in
full-few [] f = omega arith
full-few (b ∷ bs) f = omega (arith, f.0, full-few bs f.1)

-- members in the places from number i on, as a list in the first places
put_mid-over : {A : Type 0} (i k : ℕ) (xs ys : List A) → i + k ≤ length xs → length ys ≡ k → put_mid i k xs ys ≡ over (take i xs ++ ys) xs
unfolding over
put_mid-over i k xs ys h e =
    let long : i + k ≡ length (take i xs ++ ys) = omega (arith, length-append (take i xs) ys, length-take-le i xs (omega arith)) in
    sym (append_assoc (take i xs) ys (drop k (drop i xs)))
    ∙ ap (λ (zs : List _). (take i xs ++ ys) ++ zs) (drop-drop k i xs ∙ ap (λ (n : ℕ). drop n xs) long)

module _ (w : Direction) (h : List ℕ) where
  -- the blocks from bin `from` on
  pub record Left (bs : List Block) (from : ℕ) : Type 0 where
    pub full : Full bs
    pub within : from + bins_in bs ≡ length h
    pub rest : places_from from bs ≡ drop from (places w h)

  pub left-all : (bs : List Block) → bs ≡ blocks w h → Left bs 0
  unfolding places
  left-all bs e = record {
    full = rw e (cut-full (blocks-cut w h));
    within = omega (arith, ap bins_in e, cut-bins (blocks-cut w h));
    rest = ap (places_from 0) e;
  }

  left-none : (bs : List Block) (from : ℕ) → length bs ≡ 0 → Left bs from → from ≡ length h
  unfolding bins_in
  left-none (b ∷ bs) from z v = absurd (omega arith)
  left-none [] from z v = omega (arith, v.within)

  -- the first of the blocks left
  module _ (b : Block) (bs : List Block) (from : ℕ) (v : Left (b ∷ bs) from) where
    abbrev first-left : Place
    first-left = record { start = from; block = b }

    split : drop from (places w h) ≡ replicate b.len first-left ++ places_from (from + b.len) bs
    unfolding places_from
    split = sym v.rest

    left-next : Left bs (from + b.len)
    unfolding bins_in
    left-next = record {
      full = v.full.1;
      within = omega (arith, v.within);
      rest = sym (sym (drop-drop b.len from (places w h)) ∙ ap (drop b.len) split ∙ drop_at (replicate b.len first-left) _ b.len (length-replicate b.len first-left));
    }

    left-room : from + b.len + length bs ≤ length h
    unfolding bins_in
    left-room = omega (arith, v.within, full-few bs v.full.1)

    -- the places up to the end of this block
    taken_next : take (from + b.len) (places w h) ≡ take from (places w h) ++ replicate b.len first-left
    taken_next =
        take-add from b.len (places w h) ∙ ap (λ (z : List Place). take from (places w h) ++ z)
        (ap (take b.len) split ∙ take_at (replicate b.len first-left) _ b.len (length-replicate b.len first-left))

    -- and the blocks of the bins up to there
    fitted_next : take (from + b.len) (fitted w h) ≡ take from (fitted w h) ++ replicate b.len b
    fitted_next =
        let block : Place → Block = λ (p : Place). p.block in
        rw (← places-blocks w h)
        (take-map block (from + b.len) (places w h) ∙ ap (map block) taken_next ∙ map-append block (take from (places w h)) (replicate b.len first-left)
        ∙ ap (λ (z : List Block). map block (take from (places w h)) ++ z) (map-replicate block b.len first-left)
        ∙ ap (λ (z : List Block). z ++ replicate b.len b) (sym (take-map block from (places w h))))

  -- ---- the top of the stack is the first of the blocks left
  module _ (ps : List Place) (from next : ℕ) (some : next < length ps) (l : Left (stack_of ps next) from) where
    first : Left (block_at ps next ∷ stack_of ps (next + 1)) from
    first = rw (sym (stack_top ps next some)) l

    pub left_more : Left (stack_of ps (next + 1)) (from + (block_at ps next).len)
    left_more = left-next (block_at ps next) (stack_of ps (next + 1)) from first

    -- its bins end within the stretch
    pub left-end : from + (block_at ps next).len ≤ length h
    left-end = omega (arith, left-room (block_at ps next) (stack_of ps (next + 1)) from first)

  -- ---- the places
  -- the places below `from` are written, and from place `next` on the stack has the blocks that are left
  pub record Written (ps : List Place) (from next : ℕ) : Type 0 where
    pub as_many : length ps ≡ length h
    pub in_bounds : next ≤ length ps
    pub left : Left (stack_of ps next) from
    pub written : take from ps ≡ take from (places w h)

  pub none-written : (ps : List Place) (next : ℕ) → length ps ≡ length h → next ≤ length ps → stack_of ps next ≡ blocks w h → Written ps 0 next
  none-written ps next l k e = record { as_many = l; in_bounds = k; left = left-all (stack_of ps next) e; written = refl }

  pub all-written : (ps : List Place) (from next : ℕ) → length ps ≤ next → Written ps from next → ps ≡ places w h
  all-written ps from next k v =
      let e : from ≡ length h = left-none (stack_of ps next) from (omega (arith, v.in_bounds, stack-length ps next v.in_bounds)) v.left in
      sym (take_all from ps (omega (arith, v.as_many))) ∙ v.written ∙ take_all from (places w h) (omega (arith, places-length w h))

  module _ (ps : List Place) (from next : ℕ) (some : next < length ps) (v : Written ps from next) where
    abbrev b : Block
    b = block_at ps next

    -- its places end before the next block that is left
    pub written-room : from + b.len ≤ next + 1
    written-room = omega (arith, v.as_many, left-room b (stack_of ps (next + 1)) from (first ps from next some v.left), stack-length ps (next + 1) (omega arith))

    -- the places of this block too
    pub written_more : (part : List Place) (k m : ℕ) → k ≡ b.len → m ≡ b.len → part ≡ replicate m (record { start = from; block = b })
        → Written (put_mid from k ps part) (from + b.len) (next + 1)
    written_more part k m e f g =
        let ys : part ≡ replicate b.len (record { start = from; block = b }) = g ∙ ap (λ (n : ℕ). replicate n (record { start = from; block = b })) f in
        let long : length part ≡ b.len = ap length ys ∙ length-replicate b.len (record { start = from; block = b }) in
        let fits : from + k ≤ next + 1 = omega (arith, written-room) in
        let below : from ≤ length ps = omega arith in
        let as_many : length (put_mid from k ps part) ≡ length h =
        omega (arith, v.as_many, length-append (take from ps) (part ++ drop k (drop from ps)), length-append part (drop k (drop from ps)), length-take-le from ps below, length-drop k (drop from ps), length-drop from ps) in
        let rest : stack_of (put_mid from k ps part) (next + 1) ≡ stack_of ps (next + 1) =
        ap (map (λ (p : Place). p.block)) (drop-put_mid from k ps part (next + 1) fits below (long ∙ sym e)) in
        record {
          as_many = as_many;
          in_bounds = omega (arith, v.as_many);
          left = rw rest (left_more ps from next some v.left);
          written = take-put_mid from k ps part (from + b.len) (omega arith) below ∙ ap (λ (z : List Place). z ++ part) v.written
              ∙ ap (λ (z : List Place). take from (places w h) ++ z) ys ∙ sym (taken_next b (stack_of ps (next + 1)) from (first ps from next some v.left));
        }

  -- ---- lists of one figure of each bin's block
  -- a buffer has the figure f of the blocks of the bins below `from`
  abbrev pub Filled : (Block → ℕ) → ℕ → List ℕ → List ℕ → Type 0
  Filled f from buffer₀ buffer = buffer ≡ over (map f (take from (fitted w h))) buffer₀

  pub filled_none : (f : Block → ℕ) (buffer : List ℕ) → Filled f 0 buffer buffer
  filled_none f buffer = sym (over_none buffer)

  fitted-length : length (fitted w h) ≡ length h
  fitted-length = ap length (sym (places-blocks w h)) ∙ length-map (places w h) (λ (p : Place). p.block) ∙ places-length w h

  -- with no block left, it has that figure of each bin's block
  pub filled-all : (f : Block → ℕ) (ps : List Place) (from next : ℕ) (buffer₀ buffer : List ℕ) → length ps ≤ next → next ≤ length ps → Left (stack_of ps next) from
      → Filled f from buffer₀ buffer → buffer ≡ over (map f (fitted w h)) buffer₀
  filled-all f ps from next buffer₀ buffer k m l held =
      let e : from ≡ length h = left-none (stack_of ps next) from (omega (arith, stack-length ps next m)) l in
      held ∙ ap (λ (z : List Block). over (map f z) buffer₀) (take_all from (fitted w h) (omega (arith, fitted-length)))

  -- the figure of the next block too
  pub filled_more : (f : Block → ℕ) (ps : List Place) (from next : ℕ) (some : next < length ps) (l : Left (stack_of ps next) from)
      → (buffer₀ buffer part : List ℕ) (k m : ℕ) → length h ≤ length buffer → k ≡ (block_at ps next).len → m ≡ (block_at ps next).len
      → part ≡ replicate m (f (block_at ps next)) → Filled f from buffer₀ buffer
      → Filled f (from + (block_at ps next).len) buffer₀ (put_mid from k buffer part)
  filled_more f ps from next some l buffer₀ buffer part k m room e g p held =
      let b : Block = block_at ps next in
      let xs : List ℕ = map f (take from (fitted w h)) in
      let ys : List ℕ = replicate b.len (f b) in
      let q : part ≡ ys = p ∙ ap (λ (n : ℕ). replicate n (f b)) g in
      let long : length part ≡ k = ap length q ∙ length-replicate b.len (f b) ∙ sym e in
      let fits : from + k ≤ length buffer = omega (arith, left-end ps from next some l) in
      let n : length xs ≡ from = length-map (take from (fitted w h)) f ∙ length-take-le from (fitted w h) (omega (arith, fitted-length, left-end ps from next some l)) in
      let more : map f (take (from + b.len) (fitted w h)) ≡ xs ++ ys =
      ap (map f) (fitted_next b (stack_of ps (next + 1)) from (first ps from next some l)) ∙ map-append f (take from (fitted w h)) (replicate b.len b)
      ∙ ap (λ (z : List ℕ). xs ++ z) (map-replicate f b.len b) in
      put_mid-over from k buffer part fits long ∙ ap (λ (z : List ℕ). over (take from buffer ++ z) buffer) q
      ∙ ap (λ (z : List ℕ). over (take from z ++ ys) z) held
      ∙ ap (λ (i : ℕ). over (take i (over xs buffer₀) ++ ys) (over xs buffer₀)) (sym n)
      ∙ over-more xs ys buffer₀ ∙ ap (λ (z : List ℕ). over z buffer₀) (sym more)
