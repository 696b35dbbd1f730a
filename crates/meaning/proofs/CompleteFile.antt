-- The sections of a book's file stand where the counts of the book say, since each section is as long as its rows are together.
-- Assumes nothing.
use Rattle.std.proofs.Common.{◌≡◌, ℕ, zero, suc, ◌+◌, ◌*◌, ◌<◌, List, [], ◌∷◌, ◌++◌, length, get_or, take, sym, refl, ap, ◌∙◌, subst, zero-add, arith, w32, of_z}
use lib.Count.{ones}
use Rattle.std.specs.List.{flat_map}
use Rattle.std.proofs.lemmas.List.{length-append}
use Rattle.meaning.specs.Bytes.{four_at, four}
use Rattle.meaning.specs.Expression.{encoded_expression}
use Rattle.meaning.specs.Book.{Rule, Clause, Book, devices, resources}
use Rattle.meaning.specs.File.{count_cells, size_of, slots_code, slots_bytes, rule_code, rules_code, rule_bytes, rules_bytes, clauses_code, clause_bytes, clauses_bytes, starts_bytes, book_code, sections, encoded}
use Rattle.meaning.specs.Layout.{Layout, ones_at, cells_from, starts_from, rules_from, clauses_from, code_from, room, layout}
use Rattle.meaning.proofs.Stands.{Stands, none, left, right, itself, four_read}
use Rattle.meaning.proofs.Placed.{Each, Held, held_front, held_back, each_held}
use Rattle.meaning.proofs.CompleteRules.{slots_long}

fours_long : {X : Type 0} (f : X → ℕ) (xs : List X) → length (flat_map (λ x. four (f x)) xs) ≡ 4 * length xs
fours_long f [] = refl
fours_long f (x ∷ xs) = omega (arith, fours_long f xs)

rule_long : (at : ℕ) (r : Rule) → length (rule_bytes at r) ≡ 53
rule_long at r =
    let defaults = slots_bytes 4 (at + size_of r.condition) r.defaults in
    let tasks = slots_bytes 4 (at + size_of r.condition + length (slots_code r.defaults)) r.tasks in
    omega (arith, length-append defaults tasks, slots_long 4 (at + size_of r.condition) r.defaults, slots_long 4 (at + size_of r.condition + length (slots_code r.defaults)) r.tasks)

rules_long : (at : ℕ) (rs : List Rule) → length (rules_bytes at rs) ≡ 53 * length rs
unfolding rules_bytes
rules_long at [] = refl
rules_long at (r ∷ rs) =
    let rest = rules_bytes (at + length (rule_code r)) rs in
    omega (arith, length-append (rule_bytes at r) rest, rule_long at r, rules_long (at + length (rule_code r)) rs)

clauses_long : (at : ℕ) (cs : List Clause) → length (clauses_bytes at cs) ≡ 5 * length cs
unfolding clauses_bytes
clauses_long at [] = refl
clauses_long at (c ∷ cs) = omega (arith, clauses_long (at + size_of c.test) cs)

-- each of the numbers that stand one after the other is read
pub number_read : {X : Type 0} (f : X → ℕ) (d : X) (bs : List ℕ) (p : ℕ) (xs : List X) → Stands bs p (flat_map (λ x. four (f x)) xs) → (k : ℕ) → k < length xs → four_at bs (p + 4 * k) ≡ f (get_or xs k d)
number_read f d bs p [] stand k h = absurd (omega arith)
number_read f d bs p (x ∷ xs) stand zero h =
    let start : p + 4 * 0 ≡ p = omega arith in
    ap (four_at bs) start ∙ four_read bs p (f x) (left bs p (four (f x)) (flat_map (λ y. four (f y)) xs) stand)
number_read f d bs p (x ∷ xs) stand (suc k) h =
    let onward : p + 4 * suc k ≡ p + 4 + 4 * k = omega arith in
    ap (four_at bs) onward ∙ number_read f d bs (p + 4) xs (right bs p (p + 4) (four (f x)) (flat_map (λ y. four (f y)) xs) refl stand) k (omega arith)

-- the ones of the masks are counted as they were written
ones_counted : (bs : List ℕ) (p : ℕ) (ms : List ℕ) → Stands bs p (flat_map four ms) → ones_at bs p (length ms) ≡ count_cells ms
unfolding ones_at count_cells
ones_counted bs p [] stand = refl
ones_counted bs p (m ∷ ms) stand =
    let first = four_read bs p m (left bs p (four m) (flat_map four ms) stand) in
    let rest = ones_counted bs (p + 4) ms (right bs p (p + 4) (four m) (flat_map four ms) refl stand) in
    λ i. ones (first i) + rest i

-- the layout of a book's file
abbrev pub counts : Book → Layout
counts b =
    record { devices = devices b; resources = resources b; rules = length b.rules; clauses = length b.clauses; cells = count_cells b.cells; size = length (encoded b) }

-- where the code of the clauses begins
abbrev pub tests_from : Book → ℕ
tests_from b = 0 + length (rules_code b.rules)

abbrev pub clause_code : Clause → List ℕ
clause_code x = encoded_expression x.test

abbrev pub rule_place : Layout → ℕ → ℕ
rule_place l i = rules_from l + 53 * i

abbrev pub clause_place : Layout → ℕ → ℕ
clause_place l i = clauses_from l + 5 * i

-- the rule i of a book is r, and its clause i is x
abbrev pub RuleHeld : Book → ℕ → ℕ → Rule → Type 0
RuleHeld b i at r = Held (encoded b) (counts b) (rule_place (counts b) i) at (rule_bytes at r) (rule_code r)

abbrev pub ClauseHeld : Book → ℕ → ℕ → Clause → Type 0
ClauseHeld b i at x = Held (encoded b) (counts b) (clause_place (counts b) i) at (clause_bytes at x) (clause_code x)

module _ (b : Book) (started : length b.starts ≡ count_cells b.cells) where
  -- what comes after each section
  abbrev after_rules : List ℕ
  after_rules = clauses_bytes (length (rules_code b.rules)) b.clauses ++ book_code b

  abbrev after_starts : List ℕ
  after_starts = rules_bytes 0 b.rules ++ after_rules

  abbrev after_cells : List ℕ
  after_cells = starts_bytes b.starts ++ after_starts

  abbrev after_levels : List ℕ
  after_levels = flat_map four b.cells ++ after_cells

  sections_stand : Stands (encoded b) 32 (sections b)
  unfolding encoded
  sections_stand = right (encoded b) 0 32 (take 32 (encoded b)) (sections b) refl (itself (encoded b))

  pub levels_stand : Stands (encoded b) 32 b.levels
  levels_stand = left (encoded b) 32 b.levels after_levels sections_stand

  from_cells : Stands (encoded b) (cells_from (counts b)) after_levels
  from_cells = right (encoded b) 32 (cells_from (counts b)) b.levels after_levels refl sections_stand

  pub cells_stand : Stands (encoded b) (cells_from (counts b)) (flat_map four b.cells)
  cells_stand = left (encoded b) (cells_from (counts b)) (flat_map four b.cells) after_cells from_cells

  from_starts : Stands (encoded b) (starts_from (counts b)) after_cells
  from_starts =
      right (encoded b) (cells_from (counts b)) (starts_from (counts b)) (flat_map four b.cells) after_cells (omega (arith, fours_long (λ m. m) b.cells)) from_cells

  pub starts_stand : Stands (encoded b) (starts_from (counts b)) (starts_bytes b.starts)
  starts_stand = left (encoded b) (starts_from (counts b)) (starts_bytes b.starts) after_starts from_starts

  from_rules : Stands (encoded b) (rules_from (counts b)) after_starts
  from_rules =
      right (encoded b) (starts_from (counts b)) (rules_from (counts b)) (starts_bytes b.starts) after_starts (omega (arith, started, fours_long (of_z w32) b.starts)) from_starts

  from_clauses : Stands (encoded b) (clauses_from (counts b)) after_rules
  from_clauses =
      right (encoded b) (rules_from (counts b)) (clauses_from (counts b)) (rules_bytes 0 b.rules) after_rules (omega (arith, rules_long 0 b.rules)) from_rules

  code_stands : Stands (encoded b) (code_from (counts b)) (book_code b)
  code_stands =
      right (encoded b) (clauses_from (counts b)) (code_from (counts b)) (clauses_bytes (length (rules_code b.rules)) b.clauses) (book_code b) (omega (arith, clauses_long (length (rules_code b.rules)) b.clauses)) from_clauses

  pub file_long : length (encoded b) ≡ code_from (counts b) + length (book_code b)
  unfolding encoded
  file_long =
      omega (
        arith,
        started,
        length-append b.levels after_levels,
        length-append (flat_map four b.cells) after_cells,
        fours_long (λ m. m) b.cells,
        length-append (starts_bytes b.starts) after_starts,
        fours_long (of_z w32) b.starts,
        length-append (rules_bytes 0 b.rules) after_rules,
        rules_long 0 b.rules,
        length-append (clauses_bytes (length (rules_code b.rules)) b.clauses) (book_code b),
        clauses_long (length (rules_code b.rules)) b.clauses,
      )

  pub room_is : room (counts b) ≡ length (book_code b)
  room_is = omega (arith, file_long)

  pub layout_is : layout (encoded b) ≡ counts b
  unfolding encoded
  layout_is =
      let cells = ones_counted (encoded b) (cells_from (counts b)) b.cells cells_stand in
      λ i. record { devices = devices b; resources = resources b; rules = length b.rules; clauses = length b.clauses; cells = cells i; size = length (encoded b) }

  book_held : Held (encoded b) (counts b) 0 0 [] (book_code b)
  book_held =
      let start : code_from (counts b) ≡ code_from (counts b) + 0 = omega arith in
      record { bytes_stand = none (encoded b) 0; code_stands = subst (λ q. Stands (encoded b) q (book_code b)) start code_stands; fits = omega (arith, room_is) }

  pub rules_held : Each rule_code (RuleHeld b) 0 0 b.rules
  unfolding rules_bytes
  rules_held =
      let start : rules_from (counts b) ≡ rule_place (counts b) 0 = omega arith in
      let stand = left (encoded b) (rules_from (counts b)) (rules_bytes 0 b.rules) after_rules from_rules in
      let moved = subst (λ q. Stands (encoded b) q (rules_bytes 0 b.rules)) start stand in
      each_held rule_code rule_bytes rules_bytes (rule_place (counts b)) (encoded b) (counts b) (λ at r rs. refl) (λ i at r. omega (arith, rule_long at r)) 0 0 b.rules (held_front (rules_code b.rules) (clauses_code b.clauses) moved book_held)

  pub clauses_held : Each clause_code (ClauseHeld b) 0 (tests_from b) b.clauses
  unfolding clauses_bytes
  clauses_held =
      let start : clauses_from (counts b) ≡ clause_place (counts b) 0 = omega arith in
      let stand = left (encoded b) (clauses_from (counts b)) (clauses_bytes (length (rules_code b.rules)) b.clauses) (book_code b) from_clauses in
      let moved = subst (λ q. Stands (encoded b) q (clauses_bytes (tests_from b) b.clauses)) start (subst (λ at. Stands (encoded b) (clauses_from (counts b)) (clauses_bytes at b.clauses)) (sym (zero-add (length (rules_code b.rules)))) stand) in
      each_held clause_code clause_bytes clauses_bytes (clause_place (counts b)) (encoded b) (counts b) (λ at x xs. refl) (λ i at x. omega arith) 0 (tests_from b) b.clauses (held_back (rules_code b.rules) (clauses_code b.clauses) moved book_held)
