-- Code that can be evaluated. Assumes nothing.
use Rattle.std.specs.Prelude.{◌≡◌, ℕ, true, List}
use Rattle.meaning.specs.Expression.{Scope, right_from, decoded}

-- the instructions of some code are right in some scope: their operands are there, at most 8 deep, and one value is left
pub record Runnable (code : List ℕ) : Type 0 where
  pub scope : Scope
  pub right : right_from scope 0 (decoded code) ≡ true
