-- The file of a well-formed book passes every check and spells the book, since each part of it stands where reading looks for it.
-- Assumes nothing.
use Rattle.std.proofs.Common.{◌≡◌, ℕ, zero, suc, ◌+◌, ◌*◌, ◌<◌, ◌≤◌, Bool, true, false, not, ◌||◌, ltb, List, length, get_or, take, drop, pos, Ok, sym, refl, ap, ◌∙◌, subst, zero-add, arith, w32, SFits, to_z, of_z}
use lib.Signed.{mag}
use Rattle.std.specs.List.{range_with_len}
use Rattle.std.proofs.lemmas.List.FromFn.{length-range_with_len, get_or-range_with_len, fill_by_all}
use Rattle.std.proofs.lemmas.List.{length-append}
use Rattle.std.proofs.lemmas.Int.{to_z-of_z}
use Rattle.std.proofs.lemmas.Bool.{and_parts, and_from, eq-eqb, le-leb, ltb-true}
use Rattle.meaning.specs.Bytes.{byte_at, four_at, two}
use Rattle.meaning.specs.Sets.{has, within, under}
use Rattle.meaning.specs.Checks.{bind, through}
use Rattle.meaning.specs.Expression.{reads}
use Rattle.meaning.specs.Book.{Rule, Clause, Book, devices, resources, cells_of, needs}
use Rattle.meaning.specs.File.{count_cells, pair, rule_code, rules_code, clauses_code, book_code, encoded}
use Rattle.meaning.specs.WellFormed.{right_rule, right_clause, carried, readable, WellFormed}
use Rattle.meaning.specs.Layout.{Layout, cells_from, starts_from, rules_from, clauses_from, code_from, room}
use Rattle.meaning.specs.Parsed.{start_at, rule_at, clause_at, spelt}
use Rattle.meaning.specs.Reading.{first_checked, counts_checked, section_right, sections_checked, mask_checked, fields_checked, rule_checked, clause_checked, expression_checked, rule_expressions_checked, expressions_checked, carrier_checked, rule_cells_checked, clause_cells_checked, cells_checked, checked, Verdict, reading}
use Rattle.meaning.proofs.Loops.{every_at}
use Rattle.meaning.proofs.Stands.{Stands, itself, left, right, two_read}
use Rattle.meaning.proofs.Placed.{granted, bound, Each, inside, each_both, each_every, each_through, each_passes, each_read}
use Rattle.meaning.proofs.CompleteRules.{carriers_read, rule_passes, rule_expressions_pass, rule_read, device_read, clause_passes, test_passes, test_read, clause_read}
use Rattle.meaning.proofs.CompleteFile.{number_read, counts, tests_from, clause_code, rule_place, clause_place, RuleHeld, ClauseHeld, levels_stand, cells_stand, starts_stand, file_long, room_is, layout_is, rules_held, clauses_held}

-- checks that each pass
all_pass : (f : ℕ → Unit {0} → Verdict) (n i : ℕ) → ((k : ℕ) → k < i + n → f k tt ≡ Ok tt) → through f n i tt ≡ Ok tt
all_pass f zero i each = refl
all_pass f (suc n) i each = bound _ _ (λ t. through f n (i + 1) t) (each i (omega arith)) ∙ all_pass f n (i + 1) (λ k h. each k (omega arith))

section_passes : (bs : List ℕ) (p from size : ℕ) → Stands bs p (pair from size) → from + size ≤ length bs → section_right bs p from size ≡ true
section_passes bs p from size stand fits =
    let offset = two_read bs p from (left bs p (two from) (two size) stand) in
    let long = two_read bs (p + 2) size (right bs p (p + 2) (two from) (two size) refl stand) in
    and_from _ _ (eq-eqb _ _ offset) (and_from _ _ (eq-eqb _ _ long) (le-leb _ _ fits))

-- the rule i of a book is r, which is right and whose carriers have its cells
abbrev RuleFine : Book → ℕ → ℕ → Rule → Type 0
RuleFine b i at r = RuleHeld b i at r × ((right_rule (devices b) (resources b) r ≡ true) × (carried b r ≡ true))

-- its clause i is x, which is right and whose device has its cells
abbrev ClauseFine : Book → ℕ → ℕ → Clause → Type 0
ClauseFine b i at x = ClauseHeld b i at x × ((right_clause (devices b) (resources b) x ≡ true) × (readable b x ≡ true))

module _ (b : Book) (fine : WellFormed b) where
  abbrev bs : List ℕ
  bs = encoded b

  abbrev l : Layout
  l = counts b

  started : length b.starts ≡ count_cells b.cells
  started = fine.2.2

  long : code_from l + room l ≤ length bs
  long = omega (arith, room_is b started, file_long b started)

  first_passes : first_checked bs ≡ Ok tt
  unfolding encoded
  first_passes = granted _ _ _ (le-leb 32 (length bs) (omega (arith, file_long b started)))

  counts_pass : counts_checked l ≡ Ok tt
  counts_pass =
      granted _ _ _ (and_from _ _ (le-leb _ _ fine.0.0) (le-leb _ _ fine.0.1))
      ∙ granted _ _ _ (and_from _ _ (le-leb _ _ fine.0.2) (le-leb _ _ fine.0.3))
      ∙ granted _ _ _ (le-leb _ _ fine.1.0)
      ∙ granted _ _ _ (le-leb _ _ fine.1.1)

  pair_at : (p : ℕ) → Stands bs p (take 4 (drop p bs))
  pair_at p = inside bs 0 p p 4 bs (sym (zero-add p)) (itself bs)

  pairs_stand : Stands bs 8 (pair 32 l.resources) × Stands bs 12 (pair (cells_from l) (4 * l.devices)) × Stands bs 16 (pair (starts_from l) (4 * l.cells)) × Stands bs 20 (pair (rules_from l) (53 * l.rules)) × Stands bs 24 (pair (clauses_from l) (5 * l.clauses)) × Stands bs 28 (pair (code_from l) (length (book_code b)))
  unfolding encoded
  pairs_stand = (pair_at 8, pair_at 12, pair_at 16, pair_at 20, pair_at 24, pair_at 28)

  sections_pass : sections_checked bs l ≡ Ok tt
  sections_pass =
      let whole = file_long b started in
      granted _ _ _ (section_passes bs 8 32 l.resources pairs_stand.0 (omega arith))
      ∙ granted _ _ _ (section_passes bs 12 (cells_from l) (4 * l.devices) pairs_stand.1 (omega arith))
      ∙ granted _ _ _ (section_passes bs 16 (starts_from l) (4 * l.cells) pairs_stand.2 (omega arith))
      ∙ granted _ _ _ (section_passes bs 20 (rules_from l) (53 * l.rules) pairs_stand.3 (omega arith))
      ∙ granted _ _ _ (section_passes bs 24 (clauses_from l) (5 * l.clauses) pairs_stand.4 (omega arith))
      ∙ granted _ _ _ (section_passes bs 28 (code_from l) (room l) (subst (λ n. Stands bs 28 (pair (code_from l) n)) (sym (room_is b started)) pairs_stand.5) long)

  mask_read : (d : ℕ) → d < devices b → four_at bs (cells_from l + 4 * d) ≡ cells_of b d
  mask_read d h = number_read (λ m. m) 0 bs (cells_from l) b.cells (cells_stand b started) d h

  masks_pass : through (mask_checked bs l) l.devices 0 tt ≡ Ok tt
  masks_pass =
      all_pass (mask_checked bs l) l.devices 0 (λ d h. let inside : d < devices b = omega arith in granted _ _ _ (ap (λ m. under m (resources b)) (mask_read d inside) ∙ every_at (λ m. under m (resources b)) b.cells d 0 fine.2.1 inside))

  rules_fine : Each rule_code (RuleFine b) 0 0 b.rules
  rules_fine =
      each_both rule_code (RuleHeld b) _ 0 0 b.rules (rules_held b started) (each_both rule_code (λ _ _ r. right_rule (devices b) (resources b) r ≡ true) _ 0 0 b.rules (each_every rule_code (right_rule (devices b) (resources b)) 0 0 b.rules fine.3.0) (each_every rule_code (carried b) 0 0 b.rules fine.3.2))

  clauses_fine : Each clause_code (ClauseFine b) 0 (tests_from b) b.clauses
  clauses_fine =
      each_both clause_code (ClauseHeld b) _ 0 (tests_from b) b.clauses (clauses_held b started) (each_both clause_code (λ _ _ x. right_clause (devices b) (resources b) x ≡ true) _ 0 (tests_from b) b.clauses (each_every clause_code (right_clause (devices b) (resources b)) 0 (tests_from b) b.clauses fine.3.1) (each_every clause_code (readable b) 0 (tests_from b) b.clauses fine.3.3))

  fields_pass : fields_checked bs l ≡ Ok tt
  unfolding fields_checked
  fields_pass =
      let all : tests_from b + length (clauses_code b.clauses) ≡ room l = omega (arith, room_is b started, length-append (rules_code b.rules) (clauses_code b.clauses)) in
      bound _ _ _ masks_pass
      ∙ bound _ _ _ (each_through rule_code (RuleFine b) (λ i. rule_checked bs l (rule_place l i)) (λ i at r h. rule_passes bs l long (rule_place l i) at r h.0 h.1.0) 0 0 b.rules rules_fine)
      ∙ bound _ _ _ (each_through clause_code (ClauseFine b) (λ i. clause_checked bs l (clause_place l i)) (λ i at x h. clause_passes bs l long (clause_place l i) at x h.0 h.1.0) 0 (tests_from b) b.clauses clauses_fine)
      ∙ granted _ _ _ (eq-eqb _ _ all)

  expressions_pass : expressions_checked bs l ≡ Ok tt
  unfolding expressions_checked
  expressions_pass =
      bound _ _ _ (each_passes rule_code (RuleFine b) (λ i _. rule_expressions_checked bs l (rule_place l i)) (λ i at r h. rule_expressions_pass bs l long (rule_place l i) at r h.0 h.1.0) 0 0 b.rules rules_fine)
      ∙ each_passes clause_code (ClauseFine b) (λ i _. expression_checked bs l false (clause_place l i + 1)) (λ i at x h. test_passes bs l long (clause_place l i) at x h.0 h.1.0) 0 (tests_from b) b.clauses clauses_fine

  carrier_passes : (i : ℕ) (r : Rule) → carried b r ≡ true → (d : ℕ) → d < devices b → carrier_checked bs l i r.carriers (needs r) d tt ≡ Ok tt
  carrier_passes i r all d h =
      let test : ℕ → Bool = λ k. not (has r.carriers k) || within (needs r) (cells_of b k) in
      let this = get_or-range_with_len 0 (devices b) d 0 h ∙ zero-add d in
      let holds = every_at test (range_with_len 0 (devices b)) d 0 all (omega (arith, length-range_with_len 0 (devices b))) in
      granted _ _ _ (ap (λ m. not (has r.carriers d) || within (needs r) m) (mask_read d h) ∙ subst (λ k. test k ≡ true) this holds)

  rule_cells_pass : (i at : ℕ) (r : Rule) → RuleFine b i at r → rule_cells_checked bs l i tt ≡ Ok tt
  unfolding rule_cells_checked
  rule_cells_pass i at r h =
      let p = rule_place l i in
      let carriers = carriers_read bs l long p at r h.0 h.1.0 in
      let rule = rule_read bs l long p at r h.0 h.1.0 in
      (λ j. through (carrier_checked bs l i (carriers j) (needs (rule j))) l.devices 0 tt) ∙ all_pass (carrier_checked bs l i r.carriers (needs r)) l.devices 0 (λ d below. carrier_passes i r h.1.1 d (omega arith))

  clause_cells_pass : (i at : ℕ) (x : Clause) → ClauseFine b i at x → clause_cells_checked bs l i tt ≡ Ok tt
  unfolding clause_cells_checked
  clause_cells_pass i at x h =
      let p = clause_place l i in
      let test = test_read bs l long p at x h.0 h.1.0 in
      let device = device_read bs l long p at x h.0 h.1.0 in
      let below : x.device < devices b = ltb-true _ _ (and_parts _ _ h.1.0).0 in
      let mask = ap (λ d. four_at bs (cells_from l + 4 * d)) device ∙ mask_read x.device below in
      granted _ _ _ ((λ j. within (reads 0 (test j)) (mask j)) ∙ h.1.1)

  cells_pass : cells_checked bs l ≡ Ok tt
  unfolding cells_checked
  cells_pass =
      bound _ _ _ (each_passes rule_code (RuleFine b) (rule_cells_checked bs l) rule_cells_pass 0 0 b.rules rules_fine)
      ∙ each_passes clause_code (ClauseFine b) (clause_cells_checked bs l) clause_cells_pass 0 (tests_from b) b.clauses clauses_fine

  checks_pass : checked bs l ≡ Ok tt
  unfolding checked
  checks_pass = bound _ _ _ first_passes ∙ bound _ _ _ counts_pass ∙ bound _ _ _ sections_pass ∙ bound _ _ _ fields_pass ∙ bound _ _ _ expressions_pass ∙ cells_pass

  start_read : (k : ℕ) → k < length b.starts → start_at bs (starts_from l + 4 * k) ≡ get_or b.starts k (pos 0)
  start_read k h =
      let z = get_or b.starts k (pos 0) in
      let fits : SFits w32 z = record { sfits = ltb-true _ _ (every_at (λ y. ltb (mag y) 2147483648) b.starts k (pos 0) fine.2.3 h) } in
      ap (to_z w32) (number_read (of_z w32) (pos 0) bs (starts_from l) b.starts (starts_stand b started) k h) ∙ to_z-of_z w32 z fits

  book_spelt : spelt bs l ≡ b
  unfolding spelt
  book_spelt =
      let levels = fill_by_all (λ k. byte_at bs (32 + k)) b.levels l.resources 0 refl (λ k h. sym (levels_stand b started k h)) in
      let cells = fill_by_all (λ k. four_at bs (cells_from l + 4 * k)) b.cells l.devices 0 refl (λ k h. sym (mask_read k h)) in
      let starts = fill_by_all (λ k. start_at bs (starts_from l + 4 * k)) b.starts l.cells (pos 0) started (λ k h. sym (start_read k (omega arith))) in
      let rules = each_read rule_code (RuleFine b) (λ k. rule_at bs (code_from l) (rule_place l k)) (λ i at r h. rule_read bs l long (rule_place l i) at r h.0 h.1.0) 0 0 b.rules rules_fine in
      let clauses = each_read clause_code (ClauseFine b) (λ k. clause_at bs (code_from l) (clause_place l k)) (λ i at x h. clause_read bs l long (clause_place l i) at x h.0 h.1.0) 0 (tests_from b) b.clauses clauses_fine in
      λ i. record { levels = sym levels i; cells = sym cells i; starts = sym starts i; rules = rules i; clauses = clauses i }

pub complete : (b : Book) → WellFormed b → reading (encoded b) ≡ Ok b
unfolding reading
complete b fine =
    ap (λ l. bind (checked (encoded b) l) (λ _. Ok (spelt (encoded b) l))) (layout_is b fine.2.2) ∙ bound _ _ _ (checks_pass b fine) ∙ ap Ok (book_spelt b fine)
