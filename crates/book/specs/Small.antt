-- What lets a set of cells be a mask of 32 bits, of slots and rules: each resource that is read or set is below 32.
-- Assumes nothing.
use Rattle.std.specs.Prelude.{◌≡◌, ℕ, ◌<◌, Bool, true, cond, All}
use Rattle.meaning.specs.Book.{Slot, Rule}
use Rattle.meaning.specs.Expression.{reads}
use Rattle.meaning.specs.Sets.{with_member}
use Rattle.meaning.specs.WellFormed.{every}
use Rattle.book.specs.Sides.{small}

-- the target of a slot, and what it reads
abbrev pub SmallSlot : Slot → Type 0
SmallSlot x = (x.target < 32) × (every small x.value ≡ true)

-- what a rule reads and sets
pub record SmallRule (x : Rule) : Type 0 where
  pub condition : every small x.condition ≡ true
  pub defaults : All SmallSlot x.defaults
  pub tasks : All SmallSlot x.tasks

-- what a slot reads, and its target where that is wanted, beside the members of m
abbrev pub with_slot : Bool → ℕ → Slot → ℕ
with_slot target m x = reads (cond target (with_member m x.target) m) x.value
