-- The book that a file's bytes spell, whether or not they are right. Assumes nothing.
use Rattle.std.specs.Prelude.{ℕ, ◌+◌, ◌*◌, List, map, ℤ, ◌==◌}
use Rattle.std.specs.Int.{w32}
use Rattle.std.proofs.Common.{to_z}
use Rattle.std.specs.List.{range_with_len}
use Rattle.meaning.specs.Bytes.{byte_at, two_at, four_at, part}
use Rattle.meaning.specs.Expression.{Expression, decoded}
use Rattle.meaning.specs.Book.{Slot, Rule, Clause, Book}
use Rattle.meaning.specs.Layout.{Layout, layout, cells_from, starts_from, rules_from, clauses_from, code_from}

-- the code that the pair at p names, in code that begins at c
abbrev pub code_at : List ℕ → ℕ → ℕ → List ℕ
code_at bs c p = part bs (c + two_at bs p) (two_at bs (p + 2))

abbrev pub expression_at : List ℕ → ℕ → ℕ → Expression
expression_at bs c p = decoded (code_at bs c p)

abbrev pub slot_at : List ℕ → ℕ → ℕ → Slot
slot_at bs c p = record { target = byte_at bs p; value = expression_at bs c (p + 1) }

-- n slots, the first at p
abbrev pub slots_at : List ℕ → ℕ → ℕ → ℕ → List Slot
slots_at bs c p n = map (λ k. slot_at bs c (p + 5 * k)) (range_with_len 0 n)

unfoldable pub rule_at : List ℕ → ℕ → ℕ → Rule
rule_at bs c p =
    record { carriers = two_at bs p; events = four_at bs (p + 2); remote = (byte_at bs (p + 6) == 1); condition = expression_at bs c (p + 9); defaults = slots_at bs c (p + 13) (byte_at bs (p + 7)); tasks = slots_at bs c (p + 33) (byte_at bs (p + 8)) }

abbrev pub clause_at : List ℕ → ℕ → ℕ → Clause
clause_at bs c p = record { device = byte_at bs p; test = expression_at bs c (p + 1) }

abbrev pub start_at : List ℕ → ℕ → ℤ
start_at bs p = to_z w32 (four_at bs p)

-- the book that the bytes spell in a layout
unfoldable pub spelt : List ℕ → Layout → Book
spelt bs l =
    record { levels = map (λ k. byte_at bs (32 + k)) (range_with_len 0 l.resources); cells = map (λ k. four_at bs (cells_from l + 4 * k)) (range_with_len 0 l.devices); starts = map (λ k. start_at bs (starts_from l + 4 * k)) (range_with_len 0 l.cells); rules = map (λ k. rule_at bs (code_from l) (rules_from l + 53 * k)) (range_with_len 0 l.rules); clauses = map (λ k. clause_at bs (code_from l) (clauses_from l + 5 * k)) (range_with_len 0 l.clauses) }

abbrev pub parsed : List ℕ → Book
parsed bs = spelt bs (layout bs)
