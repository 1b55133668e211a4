-- Values that may be missing, as the code hands them back. Assumes nothing.
use Rattle.std.proofs.Common.{◌≡◌, ℕ, ◌<◌, cond, refl, ap, ◌∙◌, arith, Result, Ok, Err, leb, Some, None}
use Rattle.std.specs.Prelude.{Option as Answer}
use Rattle.std.specs.Option.{ok_or}
use Rattle.std.specs.Result.{OkIff, result_ok}
use Rattle.std.proofs.Math.Option.{none, some}
use borrow.Author.Tests.{le-leb, lt-leb}
use Rattle.swatch.specs.Reading.{given}

-- a number that is turned into a byte, if it fits one
pub fitting : {E : Type 0} (r : Result ℕ E) (v : ℕ) → OkIff r (v < 256) v → given (result_ok r) ≡ cond (leb v 255) (some v) none
fitting (Ok b) v h = rw (le-leb v 255 (omega (arith, h.0)), h.1) refl
fitting (Err e) v h = rw (lt-leb v 255 (omega (arith, h))) refl

-- the same, said of any number equal to the one that is turned
pub fitting-alike : {E : Type 0} (r : Result ℕ E) (v w : ℕ) → OkIff r (v < 256) v → v ≡ w → given (result_ok r) ≡ cond (leb w 255) (some w) none
fitting-alike r v w h same = fitting r v h ∙ ap (λ (n : ℕ). cond (leb n 255) (some n) none) same

-- what a missing value is turned down with
pub turned_down : {T E : Type 0} (o : Answer T) (e y : E) → ◌≡◌ {A = Result T E} (Err y) (ok_or o e) → y ≡ e
turned_down None e y h = cc
turned_down (Some x) e y h = cc
