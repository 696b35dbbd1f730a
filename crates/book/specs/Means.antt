-- The book that the tables of the code mean. Assumes nothing.
use Rattle.std.specs.Prelude.{ℕ, Bool, true, false, List, map, take}
use Rattle.book.specs.declared.book.Book.{Book}
use Rattle.book.specs.declared.rule.Span.{Span}
use Rattle.book.specs.declared.rule.Slot.{Slot}
use Rattle.book.specs.declared.rule.Action.{Action}
use Rattle.book.specs.declared.rule.Kind.{Kind}
use Rattle.book.specs.declared.rule.Kind.TheVariants.{Local, Remote}
use Rattle.book.specs.declared.rule.Rule.{Rule}
use Rattle.book.specs.declared.rule.Clause.{Clause}
use Rattle.meaning.specs.Book as meant
use Rattle.meaning.specs.Bytes.{part}
use Rattle.meaning.specs.Expression.{Expression, decoded}

-- the expression of a span of some code
abbrev pub spanned : List ℕ → Span → Expression
spanned code s = decoded (part code s.from s.size)

abbrev pub slot_means : List ℕ → Slot → meant.Slot
slot_means code s = record { target = s.target; value = spanned code s.value }

abbrev pub action_means : List ℕ → Action → List meant.Slot
action_means code a = map (slot_means code) (take a.count a.slots)

abbrev pub is_remote : Kind → Bool
is_remote Local = false
is_remote Remote = true

abbrev pub rule_means : List ℕ → Rule → meant.Rule
rule_means code r =
    record { carriers = r.carriers; events = r.events; remote = is_remote r.kind; condition = spanned code r.condition; defaults = action_means code r.defaults; tasks = action_means code r.tasks }

abbrev pub clause_means : List ℕ → Clause → meant.Clause
clause_means code x = record { device = x.device; test = spanned code x.test }

-- the code that is used
abbrev pub code_of : Book → List ℕ
code_of b = take b.code_size b.code

abbrev pub means : Book → meant.Book
means b =
    record { levels = take b.resource_count b.levels; cells = take b.device_count b.cells; starts = take b.cell_count b.starts; rules = map (rule_means (code_of b)) (take b.rule_count b.rules); clauses = map (clause_means (code_of b)) (take b.clause_count b.clauses) }
