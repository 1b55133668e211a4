-- Every ring's list is in order, and says which bins share a mode. Assumes nothing.
use Rattle.listing.specs.Listing.{RingAlwaysOrdered}
use Rattle.listing.proofs.Listed.{listed-starts, listed-count, listed-rises}
use Rattle.listing.proofs.ReadOff.{read_between, read-before}

pub ring-always-ordered : RingAlwaysOrdered
ring-always-ordered e h two = record {
  starts = listed-starts e h two;
  for_each_mode = listed-count e h two;
  rising = listed-rises e h two;
  between = read_between e h two;
  before = read-before e h two;
}
