-- What splitting asks of walking and walking of splitting, and how their results come together. Assumes nothing.
use Prim.Native.Nat.{ℕ, zero, suc, ◌+◌, ◌*◌, ◌-◌, ◌^◌, ◌≤◌, ◌<◌}
use mathlib.Core.Path.{◌≡◌, refl, sym, ap, ap₂, ◌∙◌}
use mathlib.Core.List.{List, [], ◌∷◌, ◌++◌, append-nil, append_assoc}
use native.Mathlib.Omega.{arith}
use native.Mathlib.Numerals.{add-one}
use native.Mathlib.Nat.{mul-le-mul_left, mul-le-mul_right}
use lib.ListN.{length, take, drop, get_or, length-append, length-drop, length-map, drop_of_length-le}
use lib.Seq.{take_all, take_at, drop_at, take-suc, take-add, drop-drop, take-append-le, drop-append-le, length-take-le, get_or-take, get_or-drop}
use borrow.Rule.Slice.PartMut.{put_mid, same_len_mid}
use Rattle.lists.specs.Lists.{total}
use Rattle.lists.proofs.Sums.{total-more, total-take-le}
use Rattle.lists.proofs.Places.{map_at}
use Rattle.pixel.specs.declared.Pixel.{Pixel}
use Rattle.verdict.specs.Test.{Closeness}
use Rattle.palette.specs.Levels.{Level, bin_count}
use Rattle.palette.specs.Cards.{pixels_of}
use Rattle.dividing.specs.Sorted.{code_count, mode_base, AllBelow, tally}
use Rattle.dividing.specs.Splitting.{AllIn, left_of, level_at, bins_of, modes_of, marks_of, mode_of, LevelSorted, RangeSorted, leaves, walked, resting, Split, Kept, Divisible, Walkable}
use Rattle.dividing.specs.Keeping.{codes_of, sizes_of}
use Rattle.dividing.specs.declared.Node.{Node}
use Rattle.dividing.specs.declared.keeping.CodedRange.{CodedRange}
use Rattle.dividing.specs.declared.levels.Level as next
use Rattle.dividing.specs.declared.levels.Level.TheVariants as variant
use Rattle.std.specs.Prelude.{Option, None, Some}
use Rattle.dividing.proofs.Tallies.{tally-length}
use Rattle.dividing.proofs.Scattering.{start-all}
use Rattle.dividing.proofs.Gathering.{sums-start}
use Rattle.dividing.proofs.Ranges.{bins-length}
use Rattle.dividing.proofs.LevelSort.{mode-below, keys_below}
use Rattle.dividing.proofs.Splits.{split-none, split-both, resting-both, walk-all, sorted-in, room-more, room-some, modes-in-base, leaves-few}

-- ---- from splitting to walking
marks-in : (e : Closeness) (l : Level) (keys : List ℕ) → AllBelow keys (bin_count l) → AllBelow (marks_of e l keys) (modes_of e l keys)
unfolding marks_of modes_of
marks-in e l keys below i k =
    let h = tally (bin_count l) keys in
    let u : i < length keys = omega (arith, length-map keys (mode_of e l h)) in
    rw (map_at (mode_of e l h) keys i 0 0 u) (mode-below e l h (tally-length (bin_count l) keys) (get_or keys i 0) (below i u))

-- no more than three levels are left
pub left-few : (l : Option next.Level) → left_of l ≤ 3
left-few None = omega arith
left-few (Some variant.Hue) = omega arith
left-few (Some variant.Saturation) = omega arith
left-few (Some variant.Intensity) = omega arith

module _ (node : Node) (bytes order sizes sorted : List ℕ) (n : ℕ) (s : RangeSorted node.closeness (pixels_of bytes) (level_at (left_of node.next)) order sizes sorted n) where
  pub few-modes : n ≤ mode_base
  few-modes = omega (arith, s.modes, modes-in-base node.closeness (pixels_of bytes) (level_at (left_of node.next)) (bins_of (pixels_of bytes) (level_at (left_of node.next)) order))

  pub modes-fit : n ≤ length sizes
  modes-fit = omega (arith, few-modes, ap length s.counts, tally-length mode_base (marks_of node.closeness (level_at (left_of node.next)) (bins_of (pixels_of bytes) (level_at (left_of node.next)) order)))

  pub split-walkable : (other keys keys' : List ℕ) (found : ℕ) (next' : Option next.Level) → Divisible node bytes order other keys found → left_of node.next ≡ left_of next' + 1 → ((j : ℕ) → get_or bytes j 0 < 256)
      → length sorted ≡ length other → length keys' ≡ length keys
      → Walkable (record { closeness = node.closeness; next = next'; code = node.code * mode_base }) (take n sizes) bytes sorted order keys' found
  unfolding marks_of
  split-walkable other keys keys' found next' d falls byte other' same =
      let l = level_at (left_of node.next) in
      let bins = bins_of (pixels_of bytes) l order in
      let ks = marks_of node.closeness l bins in
      let long : length (take n sizes) ≡ n = length-take-le n sizes modes-fit in
      let below : AllBelow ks n = rw s.modes (marks-in node.closeness l bins (keys_below bytes byte l order bins refl)) in
      let one : left_of node.next - 1 ≡ left_of next' = omega arith in
      let more : mode_base ^ left_of node.next ≡ mode_base * mode_base ^ left_of next' = rw one at (room-more (left_of node.next) (omega arith)) in
      let times = mul-le-mul_right (mode_base ^ left_of next') few-modes in
      record {
        left = omega (arith, left-few node.next);
        room = rw long (omega (arith, d.room));
        codes = rw long (omega (arith, d.codes, ap (λ (j : ℕ). node.code * j) more));
        lists = other' ∙ sym d.lists;
        keyed = omega (arith, d.lists, d.keyed);
        few = omega (arith, d.lists, d.few);
        inside = rw s.order (sorted-in mode_base ks order bytes d.inside);
        whole = ap (λ (z : List ℕ). total (take n z)) s.counts ∙ sums-start mode_base ks n few-modes ∙ start-all ks n below ∙ length-map bins _ ∙ bins-length (pixels_of bytes) l order ∙ d.lists ∙ sym other';
      }

pub split-walked : (e : Closeness) (ps : List Pixel) (left code found : ℕ) (xs sizes sorted : List ℕ) (n : ℕ) (codes figures codes' figures' a b : List ℕ) (found' : ℕ) → 1 ≤ left
    → LevelSorted e (level_at left) (bins_of ps (level_at left) xs) xs sizes sorted n
    → Split (walked e ps (left - 1) (code * mode_base) (take n sizes) sorted) found codes figures codes' figures' (resting (left - 1) b a) found'
    → Split (leaves e ps left code xs) found codes figures codes' figures' (resting left a b) found'
split-walked e ps zero code found xs sizes sorted n codes figures codes' figures' a b found' some s r = absurd (omega arith)
split-walked e ps (suc left) code found xs sizes sorted n codes figures codes' figures' a b found' some s r =
    let z : suc left - 1 ≡ left = omega arith in
    let few : n ≤ mode_base = omega (arith, s.modes, modes-in-base e ps (level_at (suc left)) (bins_of ps (level_at (suc left)) xs)) in
    let all = walk-all e ps (suc left) code xs sizes sorted n some s.modes few s.counts s.order in
    rw (z) at (rw all at r)

-- ---- a list lent from a place on
abbrev pub slice_from : ℕ → List ℕ → List ℕ
slice_from k xs = take (length xs - k) (drop k xs)

abbrev pub put_from : ℕ → List ℕ → List ℕ → List ℕ
put_from k xs w = put_mid k (length xs - k) xs w

pub from_is : (k : ℕ) (xs : List ℕ) → slice_from k xs ≡ drop k xs
from_is k xs = take_all (length xs - k) (drop k xs) (omega (arith, length-drop k xs))

pub put-from : (k : ℕ) (xs w : List ℕ) → put_from k xs w ≡ take k xs ++ w
put-from k xs w =
    ap (λ (y : List ℕ). take k xs ++ (w ++ y)) (drop_of_length-le (drop k xs) {i = length xs - k} (omega (arith, length-drop k xs)))
    ∙ ap (λ (y : List ℕ). take k xs ++ y) (append-nil w)

-- ---- what walking gives: of one range more, and how much
walked-last : (e : Closeness) (ps : List Pixel) (left code : ℕ) (ss : List ℕ) (s : ℕ) (xs ys : List ℕ) → total ss ≡ length xs → length ys ≡ s
    → walked e ps left code (ss ++ (s ∷ [])) (xs ++ ys) ≡ walked e ps left code ss xs ++ leaves e ps left (code + length ss) ys
unfolding walked
walked-last e ps left code [] s (x ∷ xs) ys t l = absurd (omega arith)
walked-last e ps left code [] s [] ys t l =
    let z : code ≡ code + 0 = omega arith in
    append-nil (leaves e ps left code (take s ys)) ∙ ap₂ (leaves e ps left) z (take_all s ys (omega arith))
walked-last e ps left code (r ∷ ss) s xs ys t l =
    let fits : r ≤ length xs = omega arith in
    let z : suc code + length ss ≡ code + suc (length ss) = omega arith in
    ap₂ (λ (a b : List ℕ). leaves e ps left code a ++ walked e ps left (suc code) (ss ++ (s ∷ [])) b) (take-append-le r xs ys fits) (drop-append-le r xs ys fits)
    ∙ ap (λ ls. leaves e ps left code (take r xs) ++ ls)
    (walked-last e ps left (suc code) ss s (drop r xs) ys (omega (arith, length-drop r xs)) l ∙ ap (λ (j : ℕ). walked e ps left (suc code) ss (drop r xs) ++ leaves e ps left j ys) z)
    ∙ sym (append_assoc (leaves e ps left code (take r xs)) (walked e ps left (suc code) ss (drop r xs)) (leaves e ps left (code + suc (length ss)) ys))

walked-few : (e : Closeness) (ps : List Pixel) (left code : ℕ) (ss xs : List ℕ) → length (walked e ps left code ss xs) ≤ length ss * mode_base ^ left
unfolding walked
walked-few e ps left code [] xs = omega arith
walked-few e ps left code (s ∷ ss) xs =
    omega (arith, length-append (leaves e ps left code (take s xs)) (walked e ps left (suc code) ss (drop s xs)), leaves-few e ps left code (take s xs), walked-few e ps left (suc code) ss (drop s xs))

-- ---- a part of a list lent and given back
part-long : (at s : ℕ) (xs : List ℕ) → at + s ≤ length xs → length (take (at + s - at) (drop at xs)) ≡ s
part-long at s xs fits =
    let size : at + s - at ≡ s = omega arith in
    length-take-le (at + s - at) (drop at xs) (omega (arith, length-drop at xs)) ∙ size

module _ (at s : ℕ) (xs u : List ℕ) (fits : at + s ≤ length xs) (long : length u ≡ length (take (at + s - at) (drop at xs))) where
  size : at + s - at ≡ s
  size = omega arith

  seam : length (take at xs ++ u) ≡ at + s
  seam = length-append (take at xs) u ∙ omega (arith, length-take-le at xs (omega arith), long, part-long at s xs fits)

  pub put_front : take (at + s) (put_mid at (at + s - at) xs u) ≡ take at xs ++ u
  put_front = ap (take (at + s)) (sym (append_assoc (take at xs) u _)) ∙ take_at (take at xs ++ u) _ (at + s) seam

  pub put_rest : drop (at + s) (put_mid at (at + s - at) xs u) ≡ drop s (drop at xs)
  put_rest = ap (drop (at + s)) (sym (append_assoc (take at xs) u _)) ∙ drop_at (take at xs ++ u) _ (at + s) seam ∙ ap (λ (j : ℕ). drop j (drop at xs)) size

-- ---- the modes of a level, walked one by one
-- the lists of a walk, and how many entries are found
pub record Lists : Type 0 where
  pub order : List ℕ
  pub other : List ℕ
  pub keys : List ℕ
  pub ranges : List CodedRange
  pub found : ℕ

-- after m modes, of a walk that began with other lists
pub record Walks (node : Node) (parts bytes : List ℕ) (l₀ : Lists) (m at : ℕ) (l : Lists) : Type 0 where
  pub within : m ≤ length parts
  pub start : at ≡ total (take m parts)
  pub order_long : length l.order ≡ length l₀.order
  pub other_long : length l.other ≡ length l₀.other
  pub keys_long : length l.keys ≡ length l₀.keys
  pub ahead : drop at l.order ≡ drop at l₀.order
  pub walked_so : Kept (walked node.closeness (pixels_of bytes) (left_of node.next) node.code (take m parts) (take at l₀.order)) l₀.found l₀.ranges l.ranges
      (resting (left_of node.next) (take at l.order) (take at l.other)) l.found

resting-none : (n : ℕ) → resting n [] [] ≡ []
resting-none zero = refl
resting-none (suc n) = resting-none n

module _ (node : Node) (parts bytes : List ℕ) (l₀ : Lists) (d : Walkable node parts bytes l₀.order l₀.other l₀.keys l₀.found) where
  pub walks-none : Walks node parts bytes l₀ 0 0 l₀
  unfolding walked
  walks-none = record {
    within = omega arith;
    start = refl;
    order_long = refl;
    other_long = refl;
    keys_long = refl;
    ahead = refl;
    walked_so = rw (resting-none (left_of node.next)) (split-none l₀.found (codes_of l₀.ranges) (sizes_of l₀.ranges));
  }

  module _ (m at : ℕ) (l : Lists) (w : Walks node parts bytes l₀ m at l) where
    pub walks-all : length parts ≤ m → Kept (walked node.closeness (pixels_of bytes) (left_of node.next) node.code parts l₀.order) l₀.found l₀.ranges l.ranges (resting (left_of node.next) l.order l.other) l.found
    walks-all end =
        let all = take_all m parts end in
        let over : at ≡ length l₀.order = w.start ∙ ap total all ∙ d.whole in
        rw (all, take_all at l₀.order (omega arith), take_all at l.order (omega (arith, w.order_long)), take_all at l.other (omega (arith, w.other_long))) at w.walked_so

    module _ (more : m < length parts) where
      next_start : at + get_or parts m 0 ≡ total (take (m + 1) parts)
      next_start = ap (λ (j : ℕ). j + get_or parts m 0) w.start ∙ sym (total-more parts m more)

      pub walks-fit : at + get_or parts m 0 ≤ length l₀.order
      walks-fit = omega (arith, next_start, total-take-le (m + 1) parts, d.whole)

      next-in : AllIn (take (at + get_or parts m 0 - at) (drop at l.order)) bytes
      next-in i k =
          let z : at + get_or parts m 0 - at ≡ get_or parts m 0 = omega arith in
          let long = length-take-le (at + get_or parts m 0 - at) (drop at l.order) (omega (arith, walks-fit, w.order_long, length-drop at l.order)) in
          rw (get_or-take (at + get_or parts m 0 - at) (drop at l.order) i 0 (omega arith), w.ahead, get_or-drop at l₀.order i 0) (d.inside (at + i) (omega (arith, walks-fit)))

      pub walks-divisible : Divisible (record { closeness = node.closeness; next = node.next; code = node.code + m }) bytes
          (take (at + get_or parts m 0 - at) (drop at l.order)) (take (at + get_or parts m 0 - at) (drop at l.other)) l.keys l.found
      walks-divisible =
          let s = get_or parts m 0 in
          let first = part-long at s l.order (omega (arith, walks-fit, w.order_long)) in
          let second = part-long at s l.other (omega (arith, walks-fit, w.other_long, d.lists)) in
          let some : m + 1 ≤ length parts = omega arith in
          let codes : node.code + m + 1 ≤ node.code + length parts = omega arith in
          let few = walked-few node.closeness (pixels_of bytes) (left_of node.next) node.code (take m parts) (take at l₀.order) in
          let many = ap (λ (j : ℕ). j * mode_base ^ (left_of node.next)) (length-take-le m parts (omega arith)) in
          record {
            room = omega (arith, d.room, w.walked_so.count, few, many, mul-le-mul_right (mode_base ^ (left_of node.next)) some);
            codes = omega (arith, d.codes, mul-le-mul_right (mode_base ^ (left_of node.next)) codes);
            lists = first ∙ sym second;
            keyed = omega (arith, first, walks-fit, d.keyed, w.keys_long);
            few = omega (arith, first, walks-fit, d.few);
            inside = next-in;
            coloured = λ three. absurd (omega (arith, d.left));
          }

      -- the next mode split, in parts of the two lists
      pub walks_more : (u v keys : List ℕ) (ranges : List CodedRange) (found : ℕ) → length u ≡ length (take (at + get_or parts m 0 - at) (drop at l.order))
          → length v ≡ length (take (at + get_or parts m 0 - at) (drop at l.other)) → length keys ≡ length l.keys
          → Kept (leaves node.closeness (pixels_of bytes) (left_of node.next) (node.code + m) (take (at + get_or parts m 0 - at) (drop at l.order))) l.found l.ranges ranges (resting (left_of node.next) u v) found
          → Walks node parts bytes l₀ (m + 1) (at + get_or parts m 0)
          (record { order = put_mid at (at + get_or parts m 0 - at) l.order u; other = put_mid at (at + get_or parts m 0 - at) l.other v; keys = keys; ranges = ranges; found = found })
      walks_more u v keys ranges found lu lv lk r =
          let s = get_or parts m 0 in
          let xs = l₀.order in
          let fit : at + s ≤ length l.order = omega (arith, walks-fit, w.order_long) in
          let fit' : at + s ≤ length l.other = omega (arith, walks-fit, w.other_long, d.lists) in
          let z : at + s - at ≡ s = omega arith in
          let more' : take (m + 1) parts ≡ take m parts ++ (s ∷ []) = ap (λ (j : ℕ). take j parts) (add-one m) ∙ take-suc parts m 0 more in
          let own : take (at + s - at) (drop at l.order) ≡ take s (drop at xs) = ap₂ (λ (j : ℕ) (ys : List ℕ). take j ys) z w.ahead in
          let long : length (take s (drop at xs)) ≡ s = ap length (sym own) ∙ part-long at s l.order fit in
          let many : length (take m parts) ≡ m = length-take-le m parts (omega arith) in
          let leads : total (take m parts) ≡ length (take at xs) = sym w.start ∙ sym (length-take-le at xs (omega (arith, walks-fit))) in
          let all : walked node.closeness (pixels_of bytes) (left_of node.next) node.code (take (m + 1) parts) (take (at + s) xs)
          ≡ walked node.closeness (pixels_of bytes) (left_of node.next) node.code (take m parts) (take at xs) ++ leaves node.closeness (pixels_of bytes) (left_of node.next) (node.code + m) (take s (drop at xs)) =
          ap₂ (walked node.closeness (pixels_of bytes) (left_of node.next) node.code) more' (take-add at s xs) ∙ walked-last node.closeness (pixels_of bytes) (left_of node.next) node.code (take m parts) s (take at xs) (take s (drop at xs)) leads long
          ∙ ap (λ (j : ℕ). walked node.closeness (pixels_of bytes) (left_of node.next) node.code (take m parts) (take at xs) ++ leaves node.closeness (pixels_of bytes) (left_of node.next) (node.code + j) (take s (drop at xs))) many in
          let rests : resting (left_of node.next) (take (at + s) (put_mid at (at + s - at) l.order u)) (take (at + s) (put_mid at (at + s - at) l.other v))
          ≡ resting (left_of node.next) (take at l.order) (take at l.other) ++ resting (left_of node.next) u v =
          ap₂ (resting (left_of node.next)) (put_front at s l.order u fit lu) (put_front at s l.other v fit' lv) ∙ resting-both (left_of node.next) (take at l.order) u (take at l.other) v in
          record {
            within = omega arith;
            start = next_start;
            order_long = same_len_mid at (at + s - at) l.order u lu ∙ w.order_long;
            other_long = same_len_mid at (at + s - at) l.other v lv ∙ w.other_long;
            keys_long = lk ∙ w.keys_long;
            ahead = put_rest at s l.order u fit lu ∙ ap (drop s) w.ahead ∙ drop-drop s at xs;
            walked_so = rw (all, rests) (split-both _ _ l₀.found l.found found (codes_of l₀.ranges) (codes_of l.ranges) (codes_of ranges) (sizes_of l₀.ranges) (sizes_of l.ranges) (sizes_of ranges) _ (resting (left_of node.next) u v) w.walked_so (rw own at r));
          }

-- ---- codes stay small
pub code-times : (left code : ℕ) → 1 ≤ left → (code + 1) * mode_base ^ left ≤ code_count → code * mode_base < code_count
code-times left code some h =
    let more : mode_base ≤ mode_base ^ left = omega (arith, room-more left some, room-some (left - 1)) in
    omega (arith, mul-le-mul_left (code + 1) more)

pub code-next : (left code n : ℕ) → (code + n) * mode_base ^ left ≤ code_count → code + n ≤ code_count
code-next left code n h = omega (arith, mul-le-mul_left (code + n) (room-some left))
