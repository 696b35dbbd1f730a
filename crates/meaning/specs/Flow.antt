-- Information flows of a book, by their five kinds, and which of them an order forbids. Assumes nothing.
use Rattle.std.specs.Prelude.{◌≡◌, ℕ, ◌+◌, ◌-◌, ◌^◌, Bool, false, cond, not, ◌&&◌, ◌||◌, ltb, List, [], ◌∷◌, length, ◌==◌, bit_and, nat_le, nat_lt, slice_index, slice_index_or}
use Rattle.meaning.specs.Sets.{has, with_member, within}
use Rattle.meaning.specs.Expression.{Expression, reads, asks}
use Rattle.meaning.specs.Book.{Slot, Rule, Clause, Book, resources, cells_of}
use Rattle.meaning.specs.Levels.{Order}
use Rattle.meaning.specs.WellFormed.{every}

-- from a source to a target, by a rule's default part (0) or task part (1), in a kind; of kind 5 the rule is 32 plus a clause
pub record Flow : Type 0 where
  pub rule : ℕ
  pub part : ℕ
  pub kind : ℕ
  pub target : ℕ
  pub source : ℕ

abbrev pub level : Book → ℕ → ℕ
level b r = slice_index b.levels r

-- what an expression reads, own cells and the receiver's alike, beside the members of m
abbrev pub both_reads : ℕ → Expression → ℕ
both_reads m e = asks (reads m e) e

-- the targets of some slots, beside the members of m
unfoldable pub set_by : ℕ → List Slot → ℕ
set_by m [] = m
set_by m (s ∷ ss) = set_by (with_member m s.target) ss

-- what the expression for the target t reads, beside the members of m
unfoldable pub read_for : ℕ → ℕ → List Slot → ℕ
read_for t m [] = m
read_for t m (s ∷ ss) = read_for t (cond (s.target == t) (both_reads m s.value) m) ss

-- the receiver's cells that some slots read, beside the members of m
unfoldable pub asked_by : ℕ → List Slot → ℕ
asked_by m [] = m
asked_by m (s ∷ ss) = asked_by (asks m s.value) ss

-- the slots of a part
abbrev pub slots_of : Rule → ℕ → List Slot
slots_of r p = cond (p == 0) r.defaults r.tasks

-- the cells that a remote task or its condition reads or sets as the receiver's
abbrev pub received : Rule → ℕ
received r = set_by (asked_by (asks 0 r.condition) r.tasks) r.tasks

-- a part can land on a device: default and local parts on carriers; a remote task where its cells are, if d is not the only carrier
abbrev pub lands : Book → Rule → ℕ → ℕ → Bool
lands b r p d =
    cond (p == 1 && r.remote) (within (received r) (cells_of b d) && not (r.carriers == 2 ^ d)) (has r.carriers d)

-- two sets have a member in common
abbrev pub share : ℕ → ℕ → Bool
share a b = not (bit_and a b == 0)

-- a clause reads a target of a part, on a device where the part can land
abbrev pub watches : Book → Rule → ℕ → Clause → Bool
watches b r p x = share (reads 0 x.test) (set_by 0 (slots_of r p)) && lands b r p x.device

-- what the clauses that watch a part read, beside the members of m
unfoldable pub watched : Book → Rule → ℕ → ℕ → List Clause → ℕ
watched b r p m [] = m
watched b r p m (x ∷ xs) = watched b r p (cond (watches b r p x) (reads m x.test) m) xs

-- the sources that a part of a rule lets flow to its target t, by kind: 1 events, 2 the task's condition, 3 the expression for t,
-- 4 the clauses that watch the part
abbrev pub sources : Book → Rule → ℕ → ℕ → ℕ → ℕ
sources b r p k t =
    cond (k == 1) r.events (cond (k == 2) (cond (p == 1) (both_reads 0 r.condition) 0) (cond (k == 3) (read_for t 0 (slots_of r p)) (watched b r p 0 b.clauses)))

-- a part lets s flow to t
abbrev pub part_flow : Book → Rule → ℕ → ℕ → ℕ → ℕ → Bool
part_flow b r p k t s = has (set_by 0 (slots_of r p)) t && has (sources b r p k t) s

-- kind 5: one clause reads s and t
abbrev pub clause_flow : Clause → ℕ → ℕ → Bool
clause_flow x t s = has (reads 0 x.test) t && has (reads 0 x.test) s

-- the order does not let s flow to t
abbrev pub barred : Order → Book → ℕ → ℕ → Bool
barred o b t s = not (o.below (level b s) (level b t))

abbrev pub no_rule : Rule
no_rule = record { carriers = 0; events = 0; remote = false; condition = []; defaults = []; tasks = [] }

abbrev pub no_clause : Clause
no_clause = record { device = 0; test = [] }

-- a flow of the book by a rule's part, or by a clause
abbrev pub by_rule : Book → Flow → Bool
by_rule b f =
    nat_lt f.rule (length b.rules) && (nat_lt f.part 2 && ((nat_le 1 f.kind && nat_le f.kind 4) && part_flow b (slice_index_or b.rules f.rule no_rule) f.part f.kind f.target f.source))

abbrev pub by_clause : Book → Flow → Bool
by_clause b f =
    (nat_le 32 f.rule && nat_lt f.rule (32 + length b.clauses)) && ((f.part == 0 && f.kind == 5) && clause_flow (slice_index_or b.clauses (f.rule - 32) no_clause) f.target f.source)

-- a flow between resources of the book that the order does not allow
unfoldable pub forbidden : Order → Book → Flow → Bool
forbidden o b f =
    (nat_lt f.target (resources b) && nat_lt f.source (resources b)) && ((by_rule b f || by_clause b f) && barred o b f.target f.source)

-- each level of the book is one of the order
abbrev pub levelled : Order → Book → Bool
levelled o b = every (λ l. ltb l o.count) b.levels

-- no flow is forbidden
abbrev pub Sound : Order → Book → Type 0
Sound o b = (f : Flow) → forbidden o b f ≡ false
