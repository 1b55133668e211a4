-- Every card of at most 65,536 pixels of bytes is sound. Assumes nothing.
use Prim.Native.Nat.{◌≤◌, ◌<◌}
use mathlib.Core.Path.{◌≡◌}
use mathlib.Core.List.{List, [], ◌∷◌}
use native.Mathlib.Omega.{arith}
use lib.ListN.{length, length-map}
use Rattle.lists.specs.Lists.{total}
use Rattle.lists.proofs.Filters.{filter-length}
use Rattle.lists.proofs.Each.{Each, each_from, each_at, each-filter}
use Rattle.pixel.specs.declared.Pixel.{Pixel}
use Rattle.pixel.specs.Ranges.{Bytes}
use Rattle.verdict.specs.Test.{Closeness}
use Rattle.palette.specs.Levels.{Level, grey_levels, colour_levels}
use Rattle.palette.specs.Cards.{Branch, all_greys, all_colours, members, histogram_in, branches, child, label, labels}
use Rattle.palette.specs.Sound.{HistogramSound, AllSound, most_pixels, AlwaysSound}
use Rattle.palette.proofs.LevelBins.{histogram-length, histogram-total, level-finished}
use Rattle.palette.proofs.OneBranch.{one-branch, branches-filled}
use Rattle.palette.proofs.OneEntry.{entries-length, entry-count, one_entry, count-labelled, every-pixel}

-- ---- every histogram of a card
module _ (e : Closeness) (ps : List Pixel) (few : length ps ≤ 65536) (bytes : Each Bytes ps) where
  histogram-sound : (l : Level) (b : Branch) → HistogramSound e ps l b
  unfolding histogram_in members
  histogram-sound l b =
      let own = members ps b in
      let all : total (histogram_in ps l b) ≡ length own = histogram-total l own (each-filter Bytes b.has ps bytes) in
      record {
        finished = level-finished e l (histogram_in ps l b) (histogram-length l own) (omega (arith, filter-length b.has ps));
        each_once = all;
      }

  all_sound : (ls : List Level) (b : Branch) → AllSound e ps ls b
  all_sound [] b = tt
  all_sound (l ∷ ls) b = (histogram-sound l b, λ m k. all_sound ls (child e ps l b m))

pub always-sound : AlwaysSound
unfolding most_pixels labels
always-sound e ps few bytes_at =
    let bytes = each_from Bytes ps (record { red = 0; green = 0; blue = 0 }) bytes_at in
    let one = one-branch e ps bytes in
    let n = entries-length e ps in
    record {
      greys = λ some. all_sound e ps few bytes grey_levels all_greys;
      colours = λ some. all_sound e ps few bytes colour_levels all_colours;
      labelled = length-map ps (label e ps);
      pixels = one_entry e ps one;
      counts = λ i l. count-labelled e ps one i (omega arith);
      none_empty = λ i l.
          let k : i < length (branches e ps) = omega arith in
          omega (arith, entry-count e ps i k, each_at (λ (b : Branch). 0 < length (members ps b)) (branches e ps) all_greys (branches-filled e ps bytes) i k);
      every_pixel = every-pixel e ps one;
    }
