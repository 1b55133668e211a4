-- How many segments the lists hold, and which. Assumes nothing.
use Prim.Native.Nat.{ℕ, zero, suc, ◌+◌, ◌<◌}
use mathlib.Core.Path.{◌≡◌, refl, ap}
use mathlib.Core.List.{List}
use native.Mathlib.Omega.{arith}
use lib.ListN.{length, get_or}
use Rattle.segmentation.specs.Segments.{segment_at}
use Rattle.segmentation.specs.Held.{segments_held}

pub held-length : (s p : List ℕ) (i n : ℕ) → length (segments_held s p i n) ≡ n
unfolding segments_held
held-length s p i zero = refl
held-length s p i (suc n) = ap suc (held-length s p (suc i) n)

held-at-from : (s p : List ℕ) (i n m : ℕ) → m < n → segment_at (segments_held s p i n) m ≡ record { start = get_or s (i + m) 0; peak = get_or p (i + m) 0; end = get_or s (suc (i + m)) 0 }
unfolding segments_held
held-at-from s p i zero m h = absurd (omega arith)
held-at-from s p i (suc n) zero h = let e : i + zero ≡ i = omega arith in rw e
held-at-from s p i (suc n) (suc m) h = let e : i + suc m ≡ suc i + m = omega arith in rw e (held-at-from s p (suc i) n m (omega arith))

pub held_at : (s p : List ℕ) (n m : ℕ) → m < n → segment_at (segments_held s p 0 n) m ≡ record { start = get_or s m 0; peak = get_or p m 0; end = get_or s (suc m) 0 }
held_at s p n m h = let e : 0 + m ≡ m = omega arith in rw e at (held-at-from s p 0 n m h)
