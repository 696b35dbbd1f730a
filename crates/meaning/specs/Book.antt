-- A book: devices and resources are numbered from 0, and sets of them are masks. Assumes nothing.
use Rattle.std.specs.Prelude.{ℕ, Bool, true, cond, not, List, [], ◌∷◌, length, ℤ, slice_index}
use Rattle.meaning.specs.Sets.{with_member}
use Rattle.meaning.specs.Expression.{Expression, reads}

-- one assignment: a target resource, and the expression for it
pub record Slot : Type 0 where
  pub target : ℕ
  pub value : Expression

-- carried by a set of devices, fired by a change of one of its events there: the default assignments, and the task, for the
-- device itself or for every other one, where the condition holds
pub record Rule : Type 0 where
  pub carriers : ℕ
  pub events : ℕ
  pub remote : Bool
  pub condition : Expression
  pub defaults : List Slot
  pub tasks : List Slot

-- an invariant of a device
pub record Clause : Type 0 where
  pub device : ℕ
  pub test : Expression

-- a level for each resource, the set of its cells for each device, and a start for each cell, by device and then by resource
pub record Book : Type 0 where
  pub levels : List ℕ
  pub cells : List ℕ
  pub starts : List ℤ
  pub rules : List Rule
  pub clauses : List Clause

abbrev pub devices : Book → ℕ
devices b = length b.cells

abbrev pub resources : Book → ℕ
resources b = length b.levels

-- the set of a device's cells
abbrev pub cells_of : Book → ℕ → ℕ
cells_of b d = slice_index b.cells d

-- what the expressions of some slots read, and their targets where they are wanted, beside the members of m
unfoldable pub gathered : Bool → ℕ → List Slot → ℕ
gathered targets m [] = m
gathered targets m (s ∷ ss) = gathered targets (reads (cond targets (with_member m s.target) m) s.value) ss

-- the cells that each carrier of a rule must have: its events, its own reads, its default targets and its local ones
abbrev pub needs : Rule → ℕ
needs r = gathered (not r.remote) (gathered true (reads r.events r.condition) r.defaults) r.tasks

-- the smallest book: one device, one resource of level 0, nothing more
abbrev pub smallest : Book
smallest = record { levels = 0 ∷ []; cells = 0 ∷ []; starts = []; rules = []; clauses = [] }
