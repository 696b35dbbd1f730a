-- Reading a file: the checks in their order, each with its fault, and the book where none fails. Assumes nothing.
use Rattle.std.specs.Prelude.{ℕ, zero, suc, ◌+◌, ◌*◌, Bool, false, cond, not, ◌&&◌, ◌||◌, List, length, Some, None, Ok, Err, Option, Result, ◌==◌, nat_le, nat_lt}
use Rattle.fault.specs.declared.fault.BookCause.TheVariants.{Frame, Count, Field, Expression, Cell}
use Rattle.fault.specs.declared.fault.Fault.{Fault}
use Rattle.meaning.specs.Bytes.{byte_at, two_at, four_at}
use Rattle.meaning.specs.Sets.{has, within, under, some_under}
use Rattle.meaning.specs.Checks.{book_fault, require, bind, through}
use Rattle.meaning.specs.Expression.{wrong, reads}
use Rattle.meaning.specs.Book.{Book, needs}
use Rattle.meaning.specs.Layout.{Layout, layout, cells_from, starts_from, rules_from, clauses_from, code_from, room}
use Rattle.meaning.specs.Parsed.{code_at, expression_at, rule_at, spelt}

-- a check that has nothing to hand on
abbrev pub Verdict : Type 0
Verdict = Result (Unit {0}) Fault

-- at least 32 bytes, of which the first four are the letters and digit ABU1
abbrev pub first_checked : List ℕ → Verdict
first_checked bs =
    require (nat_le 32 (length bs)) (book_fault Frame (length bs) 0)
    (require (four_at bs 0 == 1094866225) (book_fault Frame 0 0) (Ok tt))

-- 1 to 16 devices, 1 to 32 resources, at most 32 rules and at most 32 clauses
abbrev pub counts_checked : Layout → Verdict
counts_checked l =
    require (nat_le 1 l.devices && nat_le l.devices 16) (book_fault Count 4 0)
    (require (nat_le 1 l.resources && nat_le l.resources 32) (book_fault Count 5 0)
    (require (nat_le l.rules 32) (book_fault Count 6 0)
    (require (nat_le l.clauses 32) (book_fault Count 7 0) (Ok tt))))

-- the header pair at p names the section that starts at `from` and has the given size, inside the file
abbrev pub section_right : List ℕ → ℕ → ℕ → ℕ → Bool
section_right bs p from size =
    (two_at bs p == from) && (two_at bs (p + 2) == size && nat_le (from + size) (length bs))

-- the six header pairs; the code ends the file
abbrev pub sections_checked : List ℕ → Layout → Verdict
sections_checked bs l =
    require (section_right bs 8 32 l.resources) (book_fault Frame 8 0)
    (require (section_right bs 12 (cells_from l) (4 * l.devices)) (book_fault Frame 12 0)
    (require (section_right bs 16 (starts_from l) (4 * l.cells)) (book_fault Frame 16 0)
    (require (section_right bs 20 (rules_from l) (53 * l.rules)) (book_fault Frame 20 0)
    (require (section_right bs 24 (clauses_from l) (5 * l.clauses)) (book_fault Frame 24 0)
    (require (section_right bs 28 (code_from l) (room l)) (book_fault Frame 28 0) (Ok tt))))))

-- a device's mask names only resources
abbrev pub mask_checked : List ℕ → Layout → ℕ → Unit {0} → Verdict
mask_checked bs l d _ =
    require (under (four_at bs (cells_from l + 4 * d)) l.resources) (book_fault Field (cells_from l + 4 * d) 0) (Ok tt)

-- a pair at p starts where the last ended, and does not pass the code's end; handed on is where it ends
abbrev pub pair_checked : List ℕ → Layout → ℕ → ℕ → Result ℕ Fault
pair_checked bs l p next =
    require (two_at bs p == next && nat_le (next + two_at bs (p + 2)) (room l)) (book_fault Field p 0) (Ok (next + two_at bs (p + 2)))

-- one of the k slots before, the first at p, has the target t
unfoldable pub repeated : List ℕ → ℕ → ℕ → ℕ → Bool
repeated bs p t zero = false
repeated bs p t (suc k) = byte_at bs (p + 5 * k) == t || repeated bs p t k

-- slot k of an action at p: used, its target is a resource and new, and its pair follows; unused, it is zero
unfoldable pub slot_checked : List ℕ → Layout → ℕ → ℕ → ℕ → ℕ → Result ℕ Fault
slot_checked bs l p count k next =
    cond (nat_lt k count)
    (require (nat_lt (byte_at bs (p + 5 * k)) l.resources && not (repeated bs p (byte_at bs (p + 5 * k)) k)) (book_fault Field (p + 5 * k) 0)
    (pair_checked bs l (p + 5 * k + 1) next))
    (require (byte_at bs (p + 5 * k) == 0) (book_fault Field (p + 5 * k) 0)
    (require (four_at bs (p + 5 * k + 1) == 0) (book_fault Field (p + 5 * k + 1) 0) (Ok next)))

-- the four slots of an action at p
unfoldable pub action_checked : List ℕ → Layout → ℕ → ℕ → ℕ → Result ℕ Fault
action_checked bs l p count next = through (slot_checked bs l p count) 4 0 next

-- carriers, events, kind and counts of the rule at p
unfoldable pub head_checked : List ℕ → Layout → ℕ → Verdict
head_checked bs l p =
    require (some_under (two_at bs p) l.devices) (book_fault Field p 0)
    (require (some_under (four_at bs (p + 2)) l.resources) (book_fault Field (p + 2) 0)
    (require (nat_lt (byte_at bs (p + 6)) 2) (book_fault Field (p + 6) 0)
    (require (nat_le (byte_at bs (p + 7)) 4) (book_fault Field (p + 7) 0)
    (require (nat_le (byte_at bs (p + 8)) 4) (book_fault Field (p + 8) 0) (Ok tt)))))

-- the rule at p, whose code begins at `next`
unfoldable pub rule_checked : List ℕ → Layout → ℕ → ℕ → Result ℕ Fault
rule_checked bs l p next =
    bind (head_checked bs l p) (λ _.
    bind (pair_checked bs l (p + 9) next) (λ n.
    bind (action_checked bs l (p + 13) (byte_at bs (p + 7)) n) (λ m.
    action_checked bs l (p + 33) (byte_at bs (p + 8)) m)))

-- the clause at p, whose code begins at `next`
abbrev pub clause_checked : List ℕ → Layout → ℕ → ℕ → Result ℕ Fault
clause_checked bs l p next =
    require (nat_lt (byte_at bs p) l.devices) (book_fault Field p 0) (pair_checked bs l (p + 1) next)

-- the fields of the sections in file order, and then that they leave no code over
unfoldable pub fields_checked : List ℕ → Layout → Verdict
fields_checked bs l =
    bind (through (mask_checked bs l) l.devices 0 tt) (λ _.
    bind (through (λ i. rule_checked bs l (rules_from l + 53 * i)) l.rules 0 0) (λ n.
    bind (through (λ i. clause_checked bs l (clauses_from l + 5 * i)) l.clauses 0 n) (λ m.
    require (m == room l) (book_fault Field (code_from l + m) 0) (Ok tt))))

-- where an expression that begins at `at` is wrong, as a fault
abbrev pub expression_fault : ℕ → Option ℕ → Verdict
expression_fault at None = Ok tt
expression_fault at (Some k) = Err (book_fault Expression at k)

-- the expression that the pair at p names has 1 to 64 bytes, and each of its instructions may stand
unfoldable pub expression_checked : List ℕ → Layout → Bool → ℕ → Verdict
expression_checked bs l receiver p =
    require (nat_le 1 (two_at bs (p + 2)) && nat_le (two_at bs (p + 2)) 64) (book_fault Expression (code_from l + two_at bs p) 0)
    (expression_fault (code_from l + two_at bs p) (wrong (record { resources = l.resources; receiver = receiver }) (code_at bs (code_from l) p)))

-- the expressions of the used slots of an action at p
abbrev pub values_checked : List ℕ → Layout → Bool → ℕ → ℕ → Verdict
values_checked bs l receiver p count =
    through (λ k _. expression_checked bs l receiver (p + 5 * k + 1)) count 0 tt

-- the expressions of the rule at p
unfoldable pub rule_expressions_checked : List ℕ → Layout → ℕ → Verdict
rule_expressions_checked bs l p =
    bind (expression_checked bs l (byte_at bs (p + 6) == 1) (p + 9)) (λ _.
    bind (values_checked bs l false (p + 13) (byte_at bs (p + 7))) (λ _.
    values_checked bs l (byte_at bs (p + 6) == 1) (p + 33) (byte_at bs (p + 8))))

-- all expressions, in code order
unfoldable pub expressions_checked : List ℕ → Layout → Verdict
expressions_checked bs l =
    bind (through (λ i _. rule_expressions_checked bs l (rules_from l + 53 * i)) l.rules 0 tt) (λ _.
    through (λ i _. expression_checked bs l false (clauses_from l + 5 * i + 1)) l.clauses 0 tt)

-- device d, if it carries the rule i, has the cells that the rule needs
abbrev pub carrier_checked : List ℕ → Layout → ℕ → ℕ → ℕ → ℕ → Unit {0} → Verdict
carrier_checked bs l i carriers needed d _ =
    require (not (has carriers d) || within needed (four_at bs (cells_from l + 4 * d))) (book_fault Cell i d) (Ok tt)

-- each carrier of the rule i has the cells that the rule needs
unfoldable pub rule_cells_checked : List ℕ → Layout → ℕ → Unit {0} → Verdict
rule_cells_checked bs l i _ =
    through (carrier_checked bs l i (two_at bs (rules_from l + 53 * i)) (needs (rule_at bs (code_from l) (rules_from l + 53 * i)))) l.devices 0 tt

-- the device of the clause i has the cells that the clause reads
unfoldable pub clause_cells_checked : List ℕ → Layout → ℕ → Unit {0} → Verdict
clause_cells_checked bs l i _ =
    require (within (reads 0 (expression_at bs (code_from l) (clauses_from l + 5 * i + 1))) (four_at bs (cells_from l + 4 * byte_at bs (clauses_from l + 5 * i)))) (book_fault Cell (32 + i) (byte_at bs (clauses_from l + 5 * i))) (Ok tt)

-- the cells that rules need, then those that clauses read
unfoldable pub cells_checked : List ℕ → Layout → Verdict
cells_checked bs l =
    bind (through (rule_cells_checked bs l) l.rules 0 tt) (λ _. through (clause_cells_checked bs l) l.clauses 0 tt)

-- every check of a file
unfoldable pub checked : List ℕ → Layout → Verdict
checked bs l =
    bind (first_checked bs) (λ _.
    bind (counts_checked l) (λ _.
    bind (sections_checked bs l) (λ _.
    bind (fields_checked bs l) (λ _.
    bind (expressions_checked bs l) (λ _.
    cells_checked bs l)))))

-- the book of a file, or the first fault
unfoldable pub reading : List ℕ → Result Book Fault
reading bs = bind (checked bs (layout bs)) (λ _. Ok (spelt bs (layout bs)))
