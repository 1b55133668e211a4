-- How large the figures of an entry can be: its mode numbers, its means and its count. Assumes nothing.
use Prim.Native.Nat.{ℕ, suc, ◌*◌, ◌≤◌, ◌<◌}
use mathlib.Core.List.{List, [], ◌∷◌}
use native.Mathlib.Omega.{arith}
use native.Mathlib.Nat.{div-zero, div-lt_iff_lt-mul}
use lib.Dec.{eqb}
use lib.ListN.{length}
use Rattle.lists.specs.Lists.{total, numbers}
use Rattle.lists.proofs.Cases.{by_cond}
use Rattle.lists.proofs.Each.{Each, each_from, each_at, each-so, each_append, each-flat-map, each_number, each-filter}
use Rattle.lists.proofs.Filters.{filter-length}
use Rattle.lists.proofs.Flattened.{each_map}
use Rattle.pixel.specs.declared.Pixel.{Pixel}
use Rattle.pixel.specs.Ranges.{Bytes}
use Rattle.verdict.specs.Test.{Closeness}
use Rattle.palette.specs.Levels.{Level, hue, saturation, intensity, grey_levels, colour_levels, bin_count}
use Rattle.palette.specs.Cards.{Branch, all_greys, all_colours, members, mean_by, mean_of, entry_of, modes_found, child, divide, divide_some, branches}
use Rattle.palette.specs.Figures.{EntryBounds, FiguresBounded}
use Rattle.palette.proofs.FewModes.{most_modes, found-few}
use Rattle.palette.proofs.OneEntry.{branch_at, entries-length, entry-at}

-- ---- means
total-bytes : (xs : List ℕ) → Each (λ x. x < 256) xs → total xs ≤ 255 * length xs
total-bytes [] h = omega arith
total-bytes (x ∷ xs) h = omega (arith, h.0, total-bytes xs h.1)

mean-byte : (xs : List ℕ) → Each (λ x. x < 256) xs → mean_of xs < 256
unfolding mean_by mean_of
mean-byte [] h = omega (arith, div-zero 0)
mean-byte (x ∷ xs) h = (div-lt_iff_lt-mul {k = 2 * suc (length xs)} (omega arith)).1 (omega (arith, total-bytes (x ∷ xs) h))

-- ---- mode numbers
-- those of a branch
pub record SmallModes (b : Branch) : Type 0 where
  pub kind : b.kind ≤ 1
  pub hue : b.hue < bin_count hue
  pub saturation : b.saturation < bin_count saturation
  pub intensity : b.intensity < bin_count intensity

few-bins : (l : Level) → most_modes l ≤ bin_count l
few-bins hue = omega arith
few-bins saturation = omega arith
few-bins intensity = omega arith

module _ (e : Closeness) (ps : List Pixel) where
  -- a mode of a branch has a number below the bins of its level
  child-small : (l : Level) (b : Branch) (m : ℕ) → SmallModes b → m < bin_count l → SmallModes (child e ps l b m)
  unfolding child
  child-small hue b m h l = record { kind = h.kind; hue = l; saturation = h.saturation; intensity = h.intensity }
  child-small saturation b m h l = record { kind = h.kind; hue = h.hue; saturation = l; intensity = h.intensity }
  child-small intensity b m h l = record { kind = h.kind; hue = h.hue; saturation = h.saturation; intensity = l }

  divided-small : (ls : List Level) (b : Branch) → SmallModes b → Each SmallModes (divide e ps ls b)
  unfolding divide
  divided-small [] b h = (h, tt)
  divided-small (l ∷ ls) b h =
      each-flat-map SmallModes (λ m. divide e ps ls (child e ps l b m)) (numbers 0 (modes_found e ps l b))
      (each_number _ 0 (modes_found e ps l b) (λ m s k. divided-small ls (child e ps l b m) (child-small l b m h (omega (arith, found-few e ps l b, few-bins l)))))

  some-divided-small : (ls : List Level) (b : Branch) → SmallModes b → Each SmallModes (divide_some e ps ls b)
  unfolding divide_some
  some-divided-small ls b h = by_cond (Each SmallModes) (eqb (length (members ps b)) 0) [] (divide e ps ls b) (λ t. tt) (λ t. divided-small ls b h)

  branches-small : Each SmallModes (branches e ps)
  unfolding branches
  branches-small = each_append SmallModes (divide_some e ps grey_levels all_greys) (divide_some e ps colour_levels all_colours)
      (some-divided-small grey_levels all_greys (record { kind = omega arith; hue = omega arith; saturation = omega arith; intensity = omega arith }))
      (some-divided-small colour_levels all_colours (record { kind = omega arith; hue = omega arith; saturation = omega arith; intensity = omega arith }))

-- ---- the entry of a branch
members-bytes : (ps : List Pixel) (b : Branch) → Each Bytes ps → Each Bytes (members ps b)
unfolding members
members-bytes ps b h = each-filter Bytes b.has ps h

entry-bounded : (ps : List Pixel) (b : Branch) → Each Bytes ps → SmallModes b → EntryBounds (length ps) (entry_of ps b)
unfolding entry_of members
entry-bounded ps b h m =
    let own = members-bytes ps b h in
    record {
      kind = m.kind;
      hue = m.hue;
      saturation = m.saturation;
      intensity = m.intensity;
      red = mean-byte _ (each_map (λ x. x < 256) (λ (p : Pixel). p.red) (members ps b) (each-so Bytes _ (members ps b) (λ p k. k.red) own));
      green = mean-byte _ (each_map (λ x. x < 256) (λ (p : Pixel). p.green) (members ps b) (each-so Bytes _ (members ps b) (λ p k. k.green) own));
      blue = mean-byte _ (each_map (λ x. x < 256) (λ (p : Pixel). p.blue) (members ps b) (each-so Bytes _ (members ps b) (λ p k. k.blue) own));
      count = filter-length b.has ps;
    }

pub figures-bounded : FiguresBounded
figures-bounded e ps bytes n l =
    let k : n < length (branches e ps) = omega (arith, entries-length e ps) in
    rw (entry-at e ps n k) (entry-bounded ps (branch_at e ps n) (each_from Bytes ps _ bytes) (each_at SmallModes (branches e ps) all_greys (branches-small e ps) n k))
