-- How large a book's file can be: each expression has at most 64 bytes, and each list has a limit. Assumes nothing.
use Rattle.std.proofs.Common.{◌≡◌, ℕ, ◌+◌, ◌*◌, ◌/◌, ◌%◌, ◌^◌, ◌≤◌, Bool, true, false, ltb, leb, List, [], ◌∷◌, length, ap, mul-suc, arith}
use lib.Count.{ones}
use Rattle.std.specs.List.{flat_map}
use Rattle.std.proofs.lemmas.Nat.{pow_pos, shr_split, mod_below, ones-le}
use Rattle.std.proofs.lemmas.List.{length-append}
use Rattle.std.proofs.lemmas.Bool.{leb-true, eqb-true, and_parts}
use Rattle.meaning.specs.Sets.{under, some_under}
use Rattle.meaning.specs.Expression.{Expression, Scope, right, right_from, encoded_expression}
use Rattle.meaning.specs.Book.{Slot, Rule, Clause, Book, devices, resources}
use Rattle.meaning.specs.File.{count_cells, slots_code, rule_code, book_code}
use Rattle.meaning.specs.WellFormed.{every, distinct, right_action, right_rule, right_clause, WellFormed}

-- parts of at most n bytes each
joined_fits : {X : Type 0} (p : X → Bool) (f : X → List ℕ) (n : ℕ) → ((x : X) → p x ≡ true → length (f x) ≤ n) → (xs : List X) → every p xs ≡ true → length (flat_map f xs) ≤ n * length xs
unfolding every
joined_fits p f n each [] h = omega arith
joined_fits p f n each (x ∷ xs) h =
    let (here, more) = and_parts (p x) (every p xs) h in
    omega (arith, each x here, joined_fits p f n each xs more, length-append (f x) (flat_map f xs), mul-suc n (length xs))

expression_fits : (s : Scope) (e : Expression) → right s e ≡ true → length (encoded_expression e) ≤ 64
expression_fits s e h = leb-true _ 64 (and_parts (right_from s 0 e) _ h).1

slots_fit : (s : Scope) (ss : List Slot) → right_action s ss ≡ true → length (slots_code ss) ≤ 256
slots_fit s ss h =
    let (few, more) = and_parts (leb (length ss) 4) _ h in
    let each = (and_parts (distinct ss) _ (and_parts (every (λ x. ltb x.target s.resources) ss) _ more).1).1 in
    let all = joined_fits (λ x. right s x.value) (λ x. encoded_expression x.value) 64 (λ x. expression_fits s x.value) ss each in
    omega (arith, leb-true (length ss) 4 few)

rule_fits : (d r : ℕ) (x : Rule) → right_rule d r x ≡ true → length (rule_code x) ≤ 576
rule_fits d r x h =
    let own : Scope = record { resources = r; receiver = false } in
    let wide : Scope = record { resources = r; receiver = x.remote } in
    let codes = (and_parts (some_under x.events r) _ (and_parts (some_under x.carriers d) _ h).1).1 in
    let (condition, actions) = and_parts (right wide x.condition) _ codes in
    let (defaults, tasks) = and_parts (right_action own x.defaults) _ actions in
    let first = expression_fits wide x.condition condition in
    let second = slots_fit own x.defaults defaults in
    let third = slots_fit wide x.tasks tasks in
    simp length-append (omega arith)

clause_fits : (d r : ℕ) (x : Clause) → right_clause d r x ≡ true → length (encoded_expression x.test) ≤ 64
clause_fits d r x h = expression_fits _ x.test (and_parts (ltb x.device d) _ h).1

pub code_fits : (b : Book) → WellFormed b → length (book_code b) ≤ 20480
code_fits b w =
    let d = devices b in
    let r = resources b in
    let rules = joined_fits (right_rule d r) rule_code 576 (rule_fits d r) b.rules w.3.0 in
    let clauses = joined_fits (right_clause d r) (λ x. encoded_expression x.test) 64 (clause_fits d r) b.clauses w.3.1 in
    simp length-append (omega arith)

-- a set of numbers below r has at most r members
members_fit : (m r : ℕ) → under m r ≡ true → ones m ≤ r
members_fit m r h =
    let none = ap (λ q. q * 2 ^ r + m % 2 ^ r) (eqb-true (m / 2 ^ r) 0 h) in
    ones-le r m (omega (arith, shr_split m r, mod_below m (2 ^ r) (pow_pos r)))

cells_fit : (r : ℕ) (ms : List ℕ) → r ≤ 32 → every (λ m. under m r) ms ≡ true → count_cells ms ≤ 32 * length ms
unfolding every count_cells
cells_fit r [] few h = omega arith
cells_fit r (m ∷ ms) few h =
    let (here, more) = and_parts (under m r) _ h in
    omega (arith, members_fit m r here, cells_fit r ms few more)

pub file_fits : (b : Book) → WellFormed b → 32 + resources b + 4 * devices b + 4 * count_cells b.cells + 53 * length b.rules + 5 * length b.clauses + length (book_code b) ≤ 24512
file_fits b w = omega (arith, code_fits b w, cells_fit (resources b) b.cells w.0.3 w.2.1)
