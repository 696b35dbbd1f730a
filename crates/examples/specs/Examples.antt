-- Examples of values, of forbidden flows and of lanes. Assumes nothing.
use Rattle.std.specs.Prelude.{◌≡◌, ℕ, List, [], ◌∷◌, ℤ, pos, negsuc}
use Rattle.std.specs.List.{AllByRecursion}
use Rattle.meaning.specs.declared.instruction.Operator.TheVariants.{Add, Divide, Absolute}
use Rattle.meaning.specs.declared.instruction.Instruction.TheVariants.{Constant, Apply}
use Rattle.meaning.specs.Book.{Book}
use Rattle.meaning.specs.Expression.{Expression, value}
use Rattle.meaning.specs.Flow.{Flow}
use Rattle.meaning.specs.FlowList.{flow, flow_list}
use Rattle.meaning.specs.Levels.{Order, Meets}
use Rattle.levels.specs.Orders.{ladder, sets_meets}
use Rattle.runs.specs.Update.{lane_of}
use Rattle.examples.specs.Books.{two_cells, becomes, one, on_change, event_book, condition_book, value_book, watch_book, clause_book, upward_book}

pub data Example : Type 0 where
  -- the expression has this value where every cell is 0
  gives : Expression → ℤ → Example
  -- under the order the forbidden flows of the book are exactly these
  forbids : Order → Book → List Flow → Example
  -- the default part of rule 0 waits in this lane
  waits_in : Meets → Book → ℕ → Example

abbrev pub Stands : Example → Type 0
Stands (gives e v) = value e (λ _. pos 0) (λ _. pos 0) ≡ v
Stands (forbids o b fs) = flow_list o b ≡ fs
Stands (waits_in M b m) = lane_of M b 0 0 ≡ m

-- results stop at the bounds of 32 bits and division drops the fraction; then a flow of each kind, and none; and the meet of two levels
abbrev pub examples : List Example
examples =
    gives (Constant (pos 2147483647) ∷ Constant (pos 1) ∷ Apply Add ∷ []) (pos 2147483647) ∷
    gives (Constant (negsuc 6) ∷ Constant (pos 2) ∷ Apply Divide ∷ []) (negsuc 2) ∷
    gives (Constant (negsuc 2147483647) ∷ Apply Absolute ∷ []) (pos 2147483647) ∷
    forbids (ladder 2) event_book (flow 0 0 1 0 1 ∷ []) ∷
    forbids (ladder 2) condition_book (flow 0 1 2 0 1 ∷ []) ∷
    forbids (ladder 2) value_book (flow 0 0 3 0 1 ∷ []) ∷
    forbids (ladder 2) watch_book (flow 0 0 4 0 1 ∷ []) ∷
    forbids (ladder 2) clause_book (flow 32 0 5 0 1 ∷ []) ∷
    forbids (ladder 2) upward_book [] ∷
    waits_in (sets_meets 2) (two_cells 1 2 (on_change 0 (becomes 0 one ∷ becomes 1 one ∷ []) ∷ []) []) 0 ∷ []

abbrev pub Examples : Type 0
Examples = AllByRecursion Stands examples
