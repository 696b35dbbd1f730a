-- What the verdict on a book is. Assumes nothing.
use Rattle.std.specs.Prelude.{◌≡◌, ℕ, ◌*◌, Bool, true, cond, List, [], ◌∷◌, ◌++◌, length, drop, is_ok, Ok, Err, Result, ◌==◌, nat_le, nat_lt}
use Rattle.fault.specs.declared.fault.CallCause.TheVariants.{Buffer}
use Rattle.fault.specs.declared.fault.OrderCause.TheVariants as cause
use Rattle.fault.specs.declared.fault.Layer.TheVariants as layer
use Rattle.fault.specs.declared.fault.Fault.{Fault}
use Rattle.meaning.specs.Book.{Book, resources}
use Rattle.meaning.specs.Checks.{require, bind, through}
use Rattle.meaning.specs.Flow.{Flow, level, levelled, Sound}
use Rattle.meaning.specs.FlowList.{flow_list, flows_bytes, Lists}
use Rattle.meaning.specs.Levels.{Order}
use Rattle.meaning.specs.Reading.{Verdict}

-- the level of a resource is one of the order
abbrev pub level_checked : Order → Book → ℕ → Unit {0} → Verdict
level_checked o b r _ =
    require (nat_lt (level b r) o.count) (record { layer = layer.Order cause.Level; place = (r, level b r) }) (Ok tt)

unfoldable pub levels_checked : Order → Book → Verdict
levels_checked o b = through (level_checked o b) (resources b) 0 tt

-- the first flow of a list, as a refusal
abbrev pub flowless : List Flow → Verdict
flowless [] = Ok tt
flowless (f ∷ fs) = Err (record { layer = layer.Order cause.Flow; place = (f.rule, f.kind) })

-- levels first, then flows
abbrev pub judged : Order → Book → Verdict
judged o b = bind (levels_checked o b) (λ _. flowless (flow_list o b))

-- no flow is forbidden, as a test
abbrev pub is_sound : Order → Book → Bool
is_sound o b = length (flow_list o b) == 0

-- what a call of the list gives
pub record Listing (o : Order) (b : Book) (xs ys : List ℕ) (r : Result ℕ Fault) : Type 0 where
  pub flows : List Flow
  -- exactly the forbidden flows, ascending
  pub lists : Lists o b flows
  -- the levels are tested first, then the length
  pub answer : r ≡ bind (levels_checked o b) (λ _. require (nat_le (5 * length flows) (length xs)) (record { layer = layer.Call Buffer; place = (5 * length flows, length xs) }) (Ok (5 * length flows)))
  -- five bytes a flow, and what lies beyond stays; a refusal writes nothing
  pub bytes : ys ≡ cond (is_ok r) (flows_bytes flows ++ drop (5 * length flows) xs) xs

-- what a look at a book says
pub record Judgement (o : Order) (b : Book) (r : Verdict) : Type 0 where
  -- levels first, then the first forbidden flow
  pub answer : r ≡ judged o b
  -- accepted exactly where the levels are the order's and no flow is forbidden
  pub accepts : levelled o b ≡ true → Sound o b → r ≡ Ok tt
  pub levels : r ≡ Ok tt → levelled o b ≡ true
  pub sound : r ≡ Ok tt → Sound o b
