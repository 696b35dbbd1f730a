-- Which books may have a file. Assumes nothing.
use Rattle.std.specs.Prelude.{◌≡◌, ℕ, ◌≤◌, Bool, true, false, not, ◌&&◌, ◌||◌, ltb, List, [], ◌∷◌, length, ◌==◌, nat_le, nat_lt}
use Rattle.std.specs.Int.Signed.{mag}
use Rattle.std.specs.List.{range_with_len}
use Rattle.meaning.specs.Sets.{has, within, under, some_under}
use Rattle.meaning.specs.Expression.{Scope, right, reads}
use Rattle.meaning.specs.Book.{Slot, Rule, Clause, Book, devices, resources, cells_of, needs}
use Rattle.meaning.specs.File.{count_cells}

-- a test holds of each element
unfoldable pub every : {X : Type 0} → (X → Bool) → List X → Bool
every p [] = true
every p (x ∷ xs) = p x && every p xs

-- no slot of a list sets the target t
unfoldable pub unset : ℕ → List Slot → Bool
unset t [] = true
unset t (s ∷ ss) = not (s.target == t) && unset t ss

-- the targets of an action differ
unfoldable pub distinct : List Slot → Bool
distinct [] = true
distinct (s ∷ ss) = unset s.target ss && distinct ss

-- at most four slots, whose targets are resources and differ, and whose expressions are right
abbrev pub right_action : Scope → List Slot → Bool
right_action s ss =
    nat_le (length ss) 4 && (every (λ x. ltb x.target s.resources) ss && (distinct ss && every (λ x. right s x.value) ss))

-- carriers and events are there, and each expression is right; only a remote rule's condition and task may read the receiver
abbrev pub right_rule : ℕ → ℕ → Rule → Bool
right_rule d r x =
    some_under x.carriers d && (some_under x.events r && (right (record { resources = r; receiver = x.remote }) x.condition && (right_action (record { resources = r; receiver = false }) x.defaults && right_action (record { resources = r; receiver = x.remote }) x.tasks)))

abbrev pub right_clause : ℕ → ℕ → Clause → Bool
right_clause d r x = nat_lt x.device d && right (record { resources = r; receiver = false }) x.test

-- each carrier has the cells that the rule needs
abbrev pub carried : Book → Rule → Bool
carried b x = every (λ d. not (has x.carriers d) || within (needs x) (cells_of b d)) (range_with_len 0 (devices b))

-- a clause's device has the cells that it reads
abbrev pub readable : Book → Clause → Bool
readable b x = within (reads 0 x.test) (cells_of b x.device)

-- 1 to 16 devices and 1 to 32 resources
abbrev pub Counted : Book → Type 0
Counted b = (1 ≤ devices b) × (devices b ≤ 16) × (1 ≤ resources b) × (resources b ≤ 32)

-- at most 32 rules and 32 clauses
abbrev pub Few : Book → Type 0
Few b = (length b.rules ≤ 32) × (length b.clauses ≤ 32)

-- levels are bytes, masks name only resources, and each cell has a start of 32 bits
abbrev pub Tabled : Book → Type 0
Tabled b =
    (every (λ l. ltb l 256) b.levels ≡ true) × (every (λ m. under m (resources b)) b.cells ≡ true) × (length b.starts ≡ count_cells b.cells) × (every (λ z. ltb (mag z) 2147483648) b.starts ≡ true)

-- rules and clauses are right, and their cells are there
abbrev pub Ruled : Book → Type 0
Ruled b =
    (every (right_rule (devices b) (resources b)) b.rules ≡ true) × (every (right_clause (devices b) (resources b)) b.clauses ≡ true) × (every (carried b) b.rules ≡ true) × (every (readable b) b.clauses ≡ true)

abbrev pub WellFormed : Book → Type 0
WellFormed b = Counted b × Few b × Tabled b × Ruled b
