-- Where modes start, one after the other: these places rise. Assumes nothing.
use Prim.Native.Nat.{ℕ, suc}
use mathlib.Core.Path.{◌≡◌}
use mathlib.Core.List.{List, map}
use native.Mathlib.Omega.{arith}
use lib.ListN.{length, get_or, length-map, get_or-map}
use Rattle.lists.specs.Lists.{Rising}
use Rattle.segmentation.specs.Segments.{Segment, segment_at}
use Rattle.segmentation.specs.Finished.{Chain}

abbrev pub starts_of : List Segment → List ℕ
starts_of ss = map (λ (s : Segment). s.start) ss

pub starts-length : (ss : List Segment) → length (starts_of ss) ≡ length ss
starts-length ss = length-map ss (λ (s : Segment). s.start)

pub start-at : (ss : List Segment) (m : ℕ) → get_or (starts_of ss) m 0 ≡ (segment_at ss m).start
start-at ss m = get_or-map (λ (s : Segment). s.start) ss m (record { start = 0; peak = 0; end = 0 })

pub starts-rise : (ss : List Segment) → Chain ss → Rising (starts_of ss)
starts-rise ss c m l =
    let n = starts-length ss in
    omega (arith, start-at ss m, start-at ss (suc m), c.adjacent m (omega (arith, n)), c.ascending m (omega (arith, n)))
