-- The file of a book: 32 bytes of header, then levels, cells, starts, rules, clauses and code, one after the other. Assumes nothing.
use Rattle.std.specs.Prelude.{ℕ, zero, suc, ◌+◌, ◌*◌, cond, List, [], ◌∷◌, ◌++◌, length, ℤ, count_ones}
use Rattle.std.specs.Int.{w32}
use Rattle.std.proofs.Common.{of_z}
use Rattle.std.specs.List.{flat_map}
use Rattle.meaning.specs.Bytes.{two, four}
use Rattle.meaning.specs.Expression.{Expression, encoded_expression}
use Rattle.meaning.specs.Book.{Slot, Rule, Clause, Book, devices, resources}

-- how many cells some sets have together
unfoldable pub count_cells : List ℕ → ℕ
count_cells [] = 0
count_cells (m ∷ ms) = count_ones m + count_cells ms

abbrev pub pair : ℕ → ℕ → List ℕ
pair offset size = two offset ++ two size

abbrev pub size_of : Expression → ℕ
size_of e = length (encoded_expression e)

-- the code of some slots, of a rule, of some rules and of some clauses
abbrev pub slots_code : List Slot → List ℕ
slots_code ss = flat_map (λ s. encoded_expression s.value) ss

abbrev pub rule_code : Rule → List ℕ
rule_code r = encoded_expression r.condition ++ (slots_code r.defaults ++ slots_code r.tasks)

abbrev pub rules_code : List Rule → List ℕ
rules_code rs = flat_map rule_code rs

abbrev pub clauses_code : List Clause → List ℕ
clauses_code cs = flat_map (λ c. encoded_expression c.test) cs

-- n places for slots, whose code begins at `at`; those that are not used are zero
unfoldable pub slots_bytes : ℕ → ℕ → List Slot → List ℕ
slots_bytes zero at ss = []
slots_bytes (suc n) at [] = 0 ∷ 0 ∷ 0 ∷ 0 ∷ 0 ∷ slots_bytes n at []
slots_bytes (suc n) at (s ∷ ss) =
    s.target ∷ (pair at (size_of s.value) ++ slots_bytes n (at + size_of s.value) ss)

-- the 13 bytes of a rule before its slots
abbrev pub head_bytes : ℕ → Rule → List ℕ
head_bytes at r =
    two r.carriers ++ (four r.events ++ (cond r.remote 1 0 ∷ length r.defaults ∷ length r.tasks ∷ pair at (size_of r.condition)))

abbrev pub rule_bytes : ℕ → Rule → List ℕ
rule_bytes at r =
    head_bytes at r ++ (slots_bytes 4 (at + size_of r.condition) r.defaults ++ slots_bytes 4 (at + size_of r.condition + length (slots_code r.defaults)) r.tasks)

unfoldable pub rules_bytes : ℕ → List Rule → List ℕ
rules_bytes at [] = []
rules_bytes at (r ∷ rs) = rule_bytes at r ++ rules_bytes (at + length (rule_code r)) rs

abbrev pub clause_bytes : ℕ → Clause → List ℕ
clause_bytes at c = c.device ∷ pair at (size_of c.test)

unfoldable pub clauses_bytes : ℕ → List Clause → List ℕ
clauses_bytes at [] = []
clauses_bytes at (c ∷ cs) = clause_bytes at c ++ clauses_bytes (at + size_of c.test) cs

abbrev pub starts_bytes : List ℤ → List ℕ
starts_bytes zs = flat_map (λ z. four (of_z w32 z)) zs

-- all code of a book
abbrev pub book_code : Book → List ℕ
book_code b = rules_code b.rules ++ clauses_code b.clauses

-- the first bytes, the counts and the six pairs
abbrev pub header_bytes : ℕ → ℕ → ℕ → ℕ → ℕ → ℕ → List ℕ
header_bytes d r n m cells code =
    65 ∷ 66 ∷ 85 ∷ 49 ∷ d ∷ r ∷ n ∷ m ∷ (pair 32 r ++ (pair (32 + r) (4 * d) ++ (pair (32 + r + 4 * d) (4 * cells) ++ (pair (32 + r + 4 * d + 4 * cells) (53 * n) ++ (pair (32 + r + 4 * d + 4 * cells + 53 * n) (5 * m) ++ pair (32 + r + 4 * d + 4 * cells + 53 * n + 5 * m) code)))))

-- the sections, in their order
abbrev pub sections : Book → List ℕ
sections b =
    b.levels ++ (flat_map four b.cells ++ (starts_bytes b.starts ++ (rules_bytes 0 b.rules ++ (clauses_bytes (length (rules_code b.rules)) b.clauses ++ book_code b))))

unfoldable pub encoded : Book → List ℕ
encoded b =
    header_bytes (devices b) (resources b) (length b.rules) (length b.clauses) (count_cells b.cells) (length (book_code b)) ++ sections b
