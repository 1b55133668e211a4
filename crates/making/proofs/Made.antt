-- The entries one after the other: the figures of the next one. Assumes nothing.
use Prim.Native.Nat.{ℕ, ◌+◌, ◌-◌, ◌≤◌, ◌<◌}
use mathlib.Core.Path.{◌≡◌, sym, ap, ap₂, ◌∙◌}
use mathlib.Core.List.{List}
use native.Mathlib.Omega.{arith}
use lib.ListN.{length, take, drop, get_or, set, length-set, length-take}
use Rattle.lists.specs.Lists.{total, over}
use Rattle.lists.proofs.Tabled.{table-length, table_at}
use Rattle.lists.proofs.Buffers.{over-next}
use Rattle.pixel.specs.declared.Pixel.{Pixel}
use Rattle.palette.specs.declared.Entry.{Entry}
use Rattle.palette.specs.Cards.{pixels_of, no_entry}
use Rattle.palette.proofs.Triples.{pixels-bytes}
use Rattle.making.specs.declared.Sums.{Sums}
use Rattle.making.specs.Making.{range_of, sums_of, SumsFew, entry_by, entries_by, RangesLaid}
use Rattle.making.proofs.Gathered.{sums-few}
use Rattle.making.proofs.Laid.{next_start, part-is}

pub entries-long : (codes sizes xs : List ℕ) (ps : List Pixel) → length (entries_by codes sizes xs ps) ≡ length sizes
unfolding entries_by
entries-long codes sizes xs ps = table-length (λ k. entry_by (get_or codes k 0) (get_or sizes k 0) (sums_of ps (range_of sizes xs k))) (length sizes)

-- after k entries
pub record Made (bytes xs codes sizes : List ℕ) (blank : List Entry) (k at : ℕ) (es : List Entry) : Type 0 where
  pub within : k ≤ length sizes
  pub start : at ≡ total (take k sizes)
  pub room : length es ≡ length blank
  pub made : es ≡ over (take k (entries_by codes sizes xs (pixels_of bytes))) blank

-- ---- one entry more
-- what a part of the numbers comes to is no more than so many pixels do
pub slice-sums-few : (bytes xs : List ℕ) → ((j : ℕ) → get_or bytes j 0 < 256) → (a b : ℕ) (sums : Sums) → sums ≡ sums_of (pixels_of bytes) (take (b - a) (drop a xs)) → (n : ℕ) → b ≤ a + n → SumsFew sums n
slice-sums-few bytes xs byte a b sums q n h =
    let few = sums-few (pixels_of bytes) (take (b - a) (drop a xs)) (pixels-bytes bytes byte) in
    let long : length (take (b - a) (drop a xs)) ≤ n = omega (arith, length-take (b - a) (drop a xs)) in
    record {
      red = omega (arith, ap (λ (s : Sums). s.red) q, few.red);
      green = omega (arith, ap (λ (s : Sums). s.green) q, few.green);
      blue = omega (arith, ap (λ (s : Sums). s.blue) q, few.blue);
    }

-- the part that begins where the entries before it end, and is as long as its size says
pub sums-own : (ps : List Pixel) (xs : List ℕ) (a b : ℕ) (sums : Sums) → sums ≡ sums_of ps (take (b - a) (drop a xs)) → (at n : ℕ) → a ≡ at → b ≡ at + n → sums ≡ sums_of ps (take (at + n - at) (drop at xs))
sums-own ps xs a b sums q at n e f = q ∙ ap₂ (λ (i j : ℕ). sums_of ps (take (j - i) (drop i xs))) e f

module _ (bytes xs codes sizes : List ℕ) (pixels : ℕ) (r : RangesLaid xs sizes pixels) (blank : List Entry) (k at : ℕ) (es : List Entry) (m : Made bytes xs codes sizes blank k at es) (more : k < length sizes)
    (sums : Sums) (q : sums ≡ sums_of (pixels_of bytes) (take (at + get_or sizes k 0 - at) (drop at xs))) where
  pub made_more : (entry : Entry) → entry ≡ entry_by (get_or codes k 0) (get_or sizes k 0) sums → length sizes ≤ length blank
      → Made bytes xs codes sizes blank (k + 1) (at + get_or sizes k 0) (set es k entry)
  unfolding entries_by
  made_more entry e fits =
      let ps = pixels_of bytes in
      let figured : ℕ → Entry = λ j. entry_by (get_or codes j 0) (get_or sizes j 0) (sums_of ps (range_of sizes xs j)) in
      let all = entries_by codes sizes xs ps in
      let long = entries-long codes sizes xs ps in
      let own = q ∙ ap (sums_of ps) (part-is xs sizes pixels r k at m.start more) in
      let is : entry ≡ get_or all k no_entry = e ∙ ap (entry_by (get_or codes k 0) (get_or sizes k 0)) own ∙ sym (table_at figured (length sizes) k no_entry more) in
      record {
        within = omega arith;
        start = next_start xs sizes pixels r k at m.start more;
        room = simp length-set m.room;
        made = ap (λ (z : List Entry). set z k entry) m.made ∙ over-next all blank no_entry k entry (omega arith) (omega arith) is;
      }
