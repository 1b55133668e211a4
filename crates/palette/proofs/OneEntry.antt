-- Each pixel counts under exactly one entry and is labelled with it: at each place an entry holds the numbers, the pixels and the count of its branch. Assumes nothing.
use Prim.Native.Nat.{ℕ, ◌<◌}
use mathlib.Core.Path.{◌≡◌, refl, sym, ap, fun_ext, ◌∙◌}
use mathlib.Core.Bool.{Bool}
use mathlib.Core.List.{List, [], map, map-map}
use native.Mathlib.Omega.{arith}
use lib.Dec.{eqb}
use lib.ListN.{length, get_or, length-map}
use Rattle.lists.specs.Lists.{total, numbers, count_if}
use Rattle.lists.proofs.Cases.{by_cond}
use Rattle.lists.proofs.Places.{map_at}
use Rattle.lists.proofs.Each.{Each, each_all, each_at, each-so, each_append, each-flat-map}
use Rattle.lists.proofs.Counting.{count_map, count_same, total-exchange, total-ones}
use Rattle.lists.proofs.Firsts.{exactly-one, passes_at_first}
use Rattle.pixel.specs.declared.Pixel.{Pixel}
use Rattle.verdict.specs.Test.{Closeness}
use Rattle.palette.specs.Levels.{hue, saturation, intensity, grey_levels, colour_levels}
use Rattle.palette.specs.Cards.{Branch, all_greys, all_colours, members, entry_of, modes_found, child, divide, divide_some, branches, entries, label, labels, no_entry}
use Rattle.palette.specs.Sound.{pixel_at, entry_at, branch_of, counts_under, OneEntry}
use Rattle.palette.specs.declared.Entry.{Entry}
use Rattle.palette.proofs.Filled.{members-count}

module _ (e : Closeness) (ps : List Pixel) where
  -- the branch at a place of the card
  abbrev pub branch_at : ℕ → Branch
  branch_at n = get_or (branches e ps) n all_greys

  -- ---- the entry of a branch leads back to it
  Back : Branch → Type 0
  Back b = branch_of e ps (entry_of ps b) ≡ b

  greys-back : Each Back (divide_some e ps grey_levels all_greys)
  unfolding divide_some divide child entry_of branch_of Back
  greys-back =
      by_cond (Each Back) (eqb (length (members ps all_greys)) 0) [] (divide e ps grey_levels all_greys)
      (λ z. tt)
      (λ z. each-flat-map Back _ (numbers 0 (modes_found e ps intensity all_greys)) (each_all _ (numbers 0 (modes_found e ps intensity all_greys)) (λ m. (refl, tt))))

  colours-back : Each Back (divide_some e ps colour_levels all_colours)
  unfolding divide_some divide child entry_of branch_of Back
  colours-back =
      by_cond (Each Back) (eqb (length (members ps all_colours)) 0) [] (divide e ps colour_levels all_colours)
      (λ z. tt)
      (λ z. each-flat-map Back _ (numbers 0 (modes_found e ps hue all_colours)) (each_all _ (numbers 0 (modes_found e ps hue all_colours)) (λ h.
      let b = child e ps hue all_colours h in
      each-flat-map Back _ (numbers 0 (modes_found e ps saturation b)) (each_all _ (numbers 0 (modes_found e ps saturation b)) (λ s.
      let c = child e ps saturation b s in
      each-flat-map Back _ (numbers 0 (modes_found e ps intensity c)) (each_all _ (numbers 0 (modes_found e ps intensity c)) (λ i. (refl, tt))))))))

  branches-back : Each Back (branches e ps)
  unfolding branches
  branches-back = each_append Back (divide_some e ps grey_levels all_greys) (divide_some e ps colour_levels all_colours) greys-back colours-back

  -- ---- at each place
  pub entries-length : length (entries e ps) ≡ length (branches e ps)
  unfolding entries
  entries-length = length-map (branches e ps) (entry_of ps)

  pub entry-at : (n : ℕ) → n < length (branches e ps) → entry_at (entries e ps) n ≡ entry_of ps (branch_at n)
  unfolding entries
  entry-at n l = map_at (entry_of ps) (branches e ps) n all_greys no_entry l

  pub counts-under : (n : ℕ) → n < length (branches e ps) → (p : Pixel) → counts_under e ps (entry_at (entries e ps) n) p ≡ (branch_at n).has p
  unfolding counts_under Back
  counts-under n l p =
      ap (λ (t : Entry). (branch_of e ps t).has p) (entry-at n l)
      ∙ ap (λ (b : Branch). b.has p) (each_at Back (branches e ps) all_greys branches-back n l)

  pub entry-count : (n : ℕ) → n < length (branches e ps) → (entry_at (entries e ps) n).count ≡ length (members ps (branch_at n))
  unfolding entry_of
  entry-count n l = ap (λ (t : Entry). t.count) (entry-at n l)

  -- ---- where each pixel lies in exactly one branch
  module _ (one : Each (λ p. count_if (λ (b : Branch). b.has p) (branches e ps) ≡ 1) ps) where
    pub one_entry : (i : ℕ) → i < length ps → OneEntry e ps i
    unfolding labels label exactly-one
    one_entry i l =
        let p = pixel_at ps i in
        let has : Branch → Bool = λ (b : Branch). b.has p in
        let bs = branches e ps in
        let c = each_at (λ p. count_if (λ (b : Branch). b.has p) (branches e ps) ≡ 1) ps (record { red = 0; green = 0; blue = 0 }) one i l in
        let x = exactly-one has bs all_greys c in
        record {
          one = record {
            number = x.number;
            in_range = omega (arith, entries-length, x.in_range);
            passes = counts-under x.number x.in_range p ∙ x.passes;
            only = λ n k t.
                let m : n < length bs = omega (arith, entries-length) in
                x.only n m (sym (counts-under n m p) ∙ t);
          };
          label = map_at (label e ps) ps i _ 0 l;
        }

    -- 'an entry's count is the number of pixels so labelled'
    pub count-labelled : (n : ℕ) → n < length (branches e ps) → (entry_at (entries e ps) n).count ≡ count_if (eqb n) (labels e ps)
    unfolding labels label
    count-labelled n l =
        entry-count n l ∙ members-count ps (branch_at n)
        ∙ count_same (branch_at n).has (λ p. eqb n (label e ps p)) ps
        (each-so (λ p. count_if (λ (b : Branch). b.has p) (branches e ps) ≡ 1) (λ p. (branch_at n).has p ≡ eqb n (label e ps p)) ps
        (λ p c. passes_at_first (λ (b : Branch). b.has p) (branches e ps) all_greys c n l) one)
        ∙ sym (count_map (eqb n) (label e ps) ps)

    pub every-pixel : total (map (λ (t : Entry). t.count) (entries e ps)) ≡ length ps
    unfolding entries entry_of
    every-pixel =
        ap total (map-map (λ (t : Entry). t.count) (entry_of ps) (branches e ps))
        ∙ ap (λ (f : Branch → ℕ). total (map f (branches e ps))) (fun_ext (members-count ps))
        ∙ total-exchange (λ (b : Branch) (p : Pixel). b.has p) (branches e ps) ps
        ∙ total-ones (λ p. count_if (λ (b : Branch). b.has p) (branches e ps)) ps one
