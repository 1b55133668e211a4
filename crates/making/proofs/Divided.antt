-- Pixels that are divided make the entries of the card; and what making them relies on. Assumes nothing.
use Prim.Native.Nat.{ℕ, ◌+◌, ◌*◌, ◌/◌, ◌%◌, ◌≤◌, ◌<◌}
use mathlib.Core.Path.{◌≡◌, refl, sym, ap, ap₂, ◌∙◌}
use mathlib.Core.Bool.{Bool, true, false, cond}
use mathlib.Core.List.{List, [], ◌++◌, map, map-map}
use native.Mathlib.Omega.{arith}
use lib.ListN.{length, take, get_or, length-map, length-take}
use lib.Seq.{sets, take_at}
use Rattle.lists.specs.Lists.{padded}
use Rattle.lists.proofs.Cases.{by_cond}
use Rattle.lists.proofs.Stores.{take-sets}
use Rattle.lists.proofs.Each.{Each, each_from, each_at, each-so}
use Rattle.lists.proofs.Flattened.{flat_map_map}
use Rattle.lists.proofs.Places.{map_at}
use Rattle.lists.proofs.Tabled.{table_is}
use Rattle.pixel.specs.declared.Pixel.{Pixel}
use Rattle.pixel.specs.Ranges.{Bytes}
use Rattle.verdict.specs.Test.{Closeness}
use Rattle.palette.specs.declared.Entry.{Entry}
use Rattle.palette.specs.Cards.{Branch, all_greys, members, mean_by, mean_of, entry_of, branches, entries, most_entries, no_entry, pixels_of}
use Rattle.palette.specs.Sound.{pixel_at, most_pixels}
use Rattle.palette.proofs.OneBranch.{branches-filled}
use Rattle.palette.proofs.OneEntry.{entries-length}
use Rattle.palette.proofs.Triples.{pixels-bytes, pixels-length}
use Rattle.dividing.specs.Splitting.{numbers_of, code_of, leaf_of, Split}
use Rattle.dividing.specs.Sorted.{mode_base}
use Rattle.dividing.proofs.Bridge.{members-numbered}
use Rattle.making.specs.declared.CardEntries.{CardEntries}
use Rattle.making.specs.Making.{range_of, sum_of, sums_of, entry_by, entries_by, FiguresLaid, held_of, fits, card_entries, PixelsLaid}
use Rattle.making.proofs.Digits.{Digits, code_below, branches-digits}
use Rattle.making.proofs.Laid.{lengths, flat-length, flat-many, BranchesLaid, ranges-laid, range_at, held_branches, held-laid, held_first}

-- ---- an entry
mean-by : (f : Pixel → ℕ) (ps : List Pixel) (b : Branch) → mean_by (sum_of f ps (numbers_of ps b)) (length (numbers_of ps b)) ≡ mean_of (map f (members ps b))
unfolding mean_of sum_of
mean-by f ps b =
    let own = numbers_of ps b in
    let all : map (λ i. f (pixel_at ps i)) own ≡ map f (members ps b) = sym (map-map f (pixel_at ps) own) ∙ ap (map f) (members-numbered ps b) in
    let many : length own ≡ length (map f (members ps b)) = sym (length-map own (λ i. f (pixel_at ps i))) ∙ ap length all in
    rw (all, many) refl

entry-by : (ps : List Pixel) (b : Branch) → Digits b → entry_by (code_of b) (length (numbers_of ps b)) (sums_of ps (numbers_of ps b)) ≡ entry_of ps b
unfolding entry_by entry_of
entry-by ps b d =
    let i : code_of b / mode_base / mode_base / mode_base ≡ b.kind = omega (arith, d.hue, d.saturation, d.intensity) in
    let h : code_of b / mode_base / mode_base % mode_base ≡ b.hue = omega (arith, d.hue, d.saturation, d.intensity) in
    let s : code_of b / mode_base % mode_base ≡ b.saturation = omega (arith, d.hue, d.saturation, d.intensity) in
    let t : code_of b % mode_base ≡ b.intensity = omega (arith, d.hue, d.saturation, d.intensity) in
    let many : length (numbers_of ps b) ≡ length (members ps b) = sym (length-map (numbers_of ps b) (pixel_at ps)) ∙ ap length (members-numbered ps b) in
    rw (i, h, s, t, mean-by (λ p. p.red) ps b, mean-by (λ p. p.green) ps b, mean-by (λ p. p.blue) ps b, many) refl

pub bytes-each : (bytes : List ℕ) → ((j : ℕ) → get_or bytes j 0 < 256) → Each Bytes (pixels_of bytes)
bytes-each bytes byte = each_from Bytes (pixels_of bytes) (record { red = 0; green = 0; blue = 0 }) (λ i l. pixels-bytes bytes byte i)

-- ---- the pixels divided
-- how the lists are left: the codes of the entries too
pub record FiguresLeft (e : Closeness) (ps : List Pixel) (xs codes sizes : List ℕ) (n : ℕ) : Type 0 where
  pub count : n ≡ length (entries e ps)
  pub laid : PixelsLaid e ps xs sizes
  pub coded : length (branches e ps) ≤ most_entries → take (length (branches e ps)) codes ≡ map code_of (branches e ps)

pub divided-left : (e : Closeness) (ps : List Pixel) (codes₀ sizes₀ codes sizes xs rest : List ℕ) (n : ℕ) → Split (map (leaf_of ps) (branches e ps)) 0 codes₀ sizes₀ codes sizes xs n
    → length codes₀ ≡ most_entries → length sizes₀ ≡ most_entries → length xs ≡ length ps → FiguresLeft e ps (xs ++ rest) codes sizes n
divided-left e ps codes₀ sizes₀ codes sizes xs rest n d lc ls long = record {
  count = omega (arith, d.count, length-map (branches e ps) (leaf_of ps), entries-length e ps);
  laid = record {
    numbered = take_at xs rest (length ps) long ∙ d.order ∙ flat_map_map (λ l. l.pixels) (leaf_of ps) (branches e ps);
    counted = kept (λ b. length (numbers_of ps b)) sizes₀ sizes ls (d.sized ∙ ap (sets sizes₀ 0) (map-map (λ l. length l.pixels) (leaf_of ps) (branches e ps)));
  };
  coded = kept code_of codes₀ codes lc (d.coded ∙ ap (sets codes₀ 0) (map-map (λ l. l.code) (leaf_of ps) (branches e ps)));
}
  where
    kept : (f : Branch → ℕ) (before after : List ℕ) → length before ≡ most_entries → after ≡ sets before 0 (map f (branches e ps)) → length (branches e ps) ≤ most_entries
        → take (length (branches e ps)) after ≡ map f (branches e ps)
    kept f before after room q few =
        let vs = map f (branches e ps) in
        let all : length (branches e ps) ≡ 0 + length vs = omega (arith, length-map (branches e ps) f) in
        ap₂ take all q ∙ take-sets vs before 0 (omega arith)

module _ (bytes : List ℕ) (byte : (j : ℕ) → get_or bytes j 0 < 256) (long : length bytes ≡ 3 * (length bytes / 3)) (e : Closeness) (codes sizes xs : List ℕ) (n : ℕ)
    (d : FiguresLeft e (pixels_of bytes) xs codes sizes n) where
  abbrev ps : List Pixel
  ps = pixels_of bytes

  filled : Each (λ b. 0 < length (numbers_of ps b)) (branches e ps)
  filled =
      each-so _ _ (branches e ps) (λ b l. omega (arith, length-map (numbers_of ps b) (pixel_at ps), ap length (members-numbered ps b))) (branches-filled e ps (bytes-each bytes byte))

  same : length ps ≡ length bytes / 3
  same = pixels-length bytes (length bytes / 3) long

  pub divided-few : n ≤ length bytes / 3
  divided-few =
      omega (arith, d.count, entries-length e ps, same, ap length d.laid.numbered, length-take (length ps) xs, flat-many (numbers_of ps) (branches e ps) filled)

  -- those that a card holds
  abbrev bs : List Branch
  bs = held_branches e ps

  held-each : (P : Branch → Type 0) → Each P (branches e ps) → Each P bs
  held-each P all = by_cond (Each P) (fits e ps) (branches e ps) [] (λ t. all) (λ t. tt)

  laid : BranchesLaid ps bs xs
  laid = held-laid e ps xs sizes d.laid

  sized : take (held_of n) sizes ≡ lengths (numbers_of ps) bs
  sized = held_first e ps (λ b. length (numbers_of ps b)) sizes d.laid.counted n d.count

  coded : take (held_of n) codes ≡ map code_of bs
  coded = held_first e ps code_of codes d.coded n d.count

  digits : (k : ℕ) → k < length bs → Digits (get_or bs k all_greys)
  digits = each_at Digits bs all_greys (held-each Digits (branches-digits e ps))

  pub figures-laid : length bytes ≤ 3 * most_pixels → FiguresLaid bytes xs (take (held_of n) codes) (take (held_of n) sizes)
  figures-laid most = rw (coded, sized) (record {
    ranges = rw (sym same) (ranges-laid ps bs xs laid);
    many = omega (arith, flat-length (numbers_of ps) bs, laid.within, same);
    coded = length-map bs code_of ∙ sym (length-map bs count);
    small = λ k u. let l : k < length bs = omega (arith, length-map bs code_of) in rw (map_at code_of bs k all_greys 0 l) (code_below (get_or bs k all_greys) (digits k l));
    filled = λ k u. let l : k < length bs = omega (arith, length-map bs count) in rw (map_at count bs k all_greys 0 l) (each_at (λ b. 0 < count b) bs all_greys (held-each (λ b. 0 < count b) filled) k l);
  })
    where
      count : Branch → ℕ
      count b = length (numbers_of ps b)

  entry-is : (k : ℕ) (l : k < length bs)
      → entry_by (get_or (map code_of bs) k 0) (get_or (lengths (numbers_of ps) bs) k 0) (sums_of ps (range_of (lengths (numbers_of ps) bs) xs k)) ≡ entry_of ps (get_or bs k all_greys)
  entry-is k l = rw (map_at code_of bs k all_greys 0 l, range_at ps bs xs laid k l, map_at (λ b. length (numbers_of ps b)) bs k all_greys 0 l) (entry-by ps (get_or bs k all_greys) (digits k l))

  entries-are : entries_by (map code_of bs) (lengths (numbers_of ps) bs) xs ps ≡ map (entry_of ps) bs
  unfolding entries_by
  entries-are =
      let long = length-map bs (λ b. length (numbers_of ps b)) in
      sym (table_is _ (length (lengths (numbers_of ps) bs)) no_entry (map (entry_of ps) bs) (length-map bs (entry_of ps) ∙ sym long) (λ k u.
      let l : k < length bs = omega (arith, long) in
      map_at (entry_of ps) bs k all_greys no_entry l ∙ sym (entry-is k l)))

  pub card-made : (r : CardEntries) → r.total ≡ n → r.entries ≡ padded most_entries no_entry (entries_by (take (held_of n) codes) (take (held_of n) sizes) xs ps) → r ≡ card_entries e ps
  unfolding card_entries entries
  card-made r q made =
      ap₂ makes (q ∙ d.count) (made ∙ ap (padded most_entries no_entry) (rw (coded, sized) (entries-are ∙ go (fits e ps))))
    where
      makes : ℕ → List Entry → CardEntries
      makes k es = record { total = k; entries = es }

      go : (t : Bool) → map (entry_of ps) (cond t (branches e ps) []) ≡ cond t (entries e ps) []
      go true = refl
      go false = refl
