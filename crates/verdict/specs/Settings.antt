-- The closenesses that a call takes. Assumes nothing.
use Rattle.std.specs.Prelude.{◌≤ℤ◌}
use Rattle.verdict.specs.Test.{Closeness, least_closeness, most_closeness}

-- G8 does not hold
pub record Offered (e : Closeness) : Type 0 where
  pub least : least_closeness ≤ℤ e
  pub most : e ≤ℤ most_closeness
