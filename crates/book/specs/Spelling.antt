-- What a file's bytes spell, as the code's tables hold it. Assumes nothing.
use Rattle.std.specs.Prelude.{ℕ, ◌+◌, cond, List, [], ◌∷◌, ◌==◌}
use Rattle.book.specs.declared.rule.Span.{Span}
use Rattle.book.specs.declared.rule.Slot.{Slot}
use Rattle.book.specs.declared.rule.Kind.{Kind}
use Rattle.book.specs.declared.rule.Kind.TheVariants.{Local, Remote}
use Rattle.book.specs.declared.rule.Rule.{Rule}
use Rattle.book.specs.declared.rule.Clause.{Clause}
use Rattle.meaning.specs.Bytes.{byte_at, two_at, four_at}

abbrev pub kind_spelt : List ℕ → ℕ → Kind
kind_spelt bs p = cond (byte_at bs p == 1) Remote Local

abbrev pub span_spelt : List ℕ → ℕ → Span
span_spelt bs p = record { from = two_at bs p; size = two_at bs (p + 2) }

abbrev pub slot_spelt : List ℕ → ℕ → Slot
slot_spelt bs p = record { target = byte_at bs p; value = span_spelt bs (p + 1) }

abbrev pub slots_spelt : List ℕ → ℕ → List Slot
slots_spelt bs p =
    slot_spelt bs p ∷ slot_spelt bs (p + 5) ∷ slot_spelt bs (p + 10) ∷ slot_spelt bs (p + 15) ∷ []

abbrev pub rule_spelt : List ℕ → ℕ → Rule
rule_spelt bs p =
    record { carriers = two_at bs p; events = four_at bs (p + 2); kind = kind_spelt bs (p + 6); condition = span_spelt bs (p + 9); defaults = record { count = byte_at bs (p + 7); slots = slots_spelt bs (p + 13) }; tasks = record { count = byte_at bs (p + 8); slots = slots_spelt bs (p + 33) } }

abbrev pub clause_spelt : List ℕ → ℕ → Clause
clause_spelt bs p = record { device = byte_at bs p; test = span_spelt bs (p + 1) }
