-- Small books: one device with two resources, and for each kind of flow a book that lets resource 1 flow to resource 0. Assumes nothing.
use Rattle.std.specs.Prelude.{ℕ, ◌^◌, false, List, [], ◌∷◌, pos}
use Rattle.meaning.specs.declared.instruction.Operator.TheVariants.{Add, Less, AtMost}
use Rattle.meaning.specs.declared.instruction.Instruction.TheVariants.{Constant, Own, Apply}
use Rattle.meaning.specs.Book.{Slot, Rule, Clause, Book}
use Rattle.meaning.specs.Expression.{Expression}

-- one device with the resources 0 and 1, of the given levels, whose cells start at 0
abbrev pub two_cells : ℕ → ℕ → List Rule → List Clause → Book
two_cells level_0 level_1 rules clauses =
    record { levels = level_0 ∷ level_1 ∷ []; cells = 3 ∷ []; starts = pos 0 ∷ pos 0 ∷ []; rules = rules; clauses = clauses }

-- resource 0 has level 0, and resource 1 has level 1
abbrev pub low_high : List Rule → List Clause → Book
low_high rules clauses = two_cells 0 1 rules clauses

-- the target is to have the value of the expression
abbrev pub becomes : ℕ → Expression → Slot
becomes target e = record { target = target; value = e }

abbrev pub one : Expression
one = Constant (pos 1) ∷ []

-- a rule of the device, for a change of one resource
abbrev pub local_rule : ℕ → Expression → List Slot → List Slot → Rule
local_rule event e defaults tasks =
    record { carriers = 1; events = 2 ^ event; remote = false; condition = e; defaults = defaults; tasks = tasks }

-- at a change of the resource: the assignments, by default
abbrev pub on_change : ℕ → List Slot → Rule
on_change event slots = local_rule event one slots []

-- at a change of the resource: the assignments, as a task where the condition holds
abbrev pub on_change_if : ℕ → Expression → List Slot → Rule
on_change_if event e slots = local_rule event e [] slots

-- an invariant of the device
abbrev pub always : Expression → Clause
always e = record { device = 0; test = e }

-- kind 1: resource 1 is the event
abbrev pub event_book : Book
event_book = low_high (on_change 1 (becomes 0 one ∷ []) ∷ []) []

-- kind 2: the condition reads resource 1
abbrev pub condition_book : Book
condition_book = low_high (on_change_if 0 (Own 1 ∷ []) (becomes 0 one ∷ []) ∷ []) []

-- kind 3: the expression for resource 0 reads resource 1
abbrev pub value_book : Book
value_book = low_high (on_change 0 (becomes 0 (Own 1 ∷ []) ∷ []) ∷ []) []

-- resource 1 counts up
abbrev pub counts_up : Slot
counts_up = becomes 1 (Own 1 ∷ Constant (pos 1) ∷ Apply Add ∷ [])

-- kind 4: a clause over resource 1, which stays below 5, can block an update that sets both
abbrev pub watch_book : Book
watch_book =
    low_high (on_change 0 (becomes 0 one ∷ counts_up ∷ []) ∷ []) (always (Own 1 ∷ Constant (pos 5) ∷ Apply Less ∷ []) ∷ [])

-- kind 5: one clause reads both, and says that resource 0 is at most resource 1
abbrev pub clause_book : Book
clause_book = low_high [] (always (Own 0 ∷ Own 1 ∷ Apply AtMost ∷ []) ∷ [])

-- no forbidden flow: resource 0 is the event, and resource 1 the target
abbrev pub upward_book : Book
upward_book = low_high (on_change 0 (becomes 1 one ∷ []) ∷ []) []
