-- What a table of pairs says, with that of the levels a and b at 16 × a + b. Assumes nothing.
use Rattle.std.specs.Prelude.{ℕ, ◌+◌, ◌*◌, ◌/◌, ◌%◌, false, cond, ◌&&◌, List, Option, Some, None, slice_index_or}
use Rattle.meaning.specs.Levels.{Order, Meets}
use Rattle.levels.specs.Orders.{both_inside}
use Rattle.levels.specs.declared.scale.Pair.{Pair}

-- what is read past the end of a table
abbrev pub no_pair : Pair
no_pair = record { below = false; meet = 0 }

-- what an order and its meets say of the two levels at a place
abbrev pub said_at : Order → Meets → ℕ → Pair
said_at o m k = record { below = o.below (k / 16) (k % 16); meet = m.meet (k / 16) (k % 16) }

abbrev pub written : List Pair → ℕ → ℕ → Pair
written pairs a b = slice_index_or pairs (16 * a + b) no_pair

-- the pair of two levels, of which there are n
abbrev pub looked_up : ℕ → List Pair → ℕ → ℕ → Option Pair
looked_up n pairs a b = cond (both_inside n a b) (Some (written pairs a b)) None

abbrev pub table_order : ℕ → List Pair → Order
table_order n pairs = record { count = n; below = λ a b. both_inside n a b && (written pairs a b).below }

abbrev pub table_meets : ℕ → List Pair → Meets
table_meets n pairs = record { meet = λ a b. cond (both_inside n a b) (written pairs a b).meet 0 }
