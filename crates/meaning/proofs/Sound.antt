-- What is read from a file is a well-formed book, and the file is its encoding: each part of the book passed the checks that
-- well-formedness asks of it, and each stands in the file where and as it is written. Assumes nothing.
use Rattle.std.proofs.Common.{◌≡◌, ℕ, ◌+◌, ◌*◌, ◌<◌, ◌≤◌, true, not, ◌||◌, ltb, List, ◌++◌, map, length, Ok, sym, refl, ap, ◌∙◌, subst, add-zero, arith, w32}
use borrow.Author.Gap.{read_sfits}
use lib.Signed.{mag}
use Rattle.std.specs.List.{range_with_len}
use Rattle.std.proofs.lemmas.List.FromFn.{length-map-range_with_len, get_or-map-range_with_len}
use Rattle.std.proofs.lemmas.Bool.{lt-ltb, ltb-true, eqb-true}
use Rattle.meaning.specs.Bytes.{four_at, Bytes}
use Rattle.meaning.specs.Sets.{has, within, under}
use Rattle.meaning.specs.Checks.{through}
use Rattle.meaning.specs.Expression.{reads}
use Rattle.meaning.specs.Book.{Rule, Book, devices, resources, cells_of, needs}
use Rattle.meaning.specs.File.{count_cells, rules_code, clauses_code, clauses_bytes, book_code, header_bytes, sections, encoded}
use Rattle.meaning.specs.WellFormed.{every, right_rule, right_clause, carried, readable, WellFormed}
use Rattle.meaning.specs.Layout.{Layout, layout, cells_from, starts_from, rules_from, clauses_from, code_from, room}
use Rattle.meaning.specs.Parsed.{rule_at, spelt, parsed}
use Rattle.meaning.specs.Reading.{first_checked, counts_checked, sections_checked, mask_checked, rule_checked, clause_checked, fields_checked, rule_expressions_checked, expressions_checked, rule_cells_checked, clause_cells_checked, cells_checked, checked, reading}
use Rattle.meaning.proofs.Rows.{passed, both}
use Rattle.meaning.proofs.Fills.{Fills, fills_both, is_file}
use Rattle.meaning.proofs.Loops.{each, every_below, every_row}
use Rattle.meaning.proofs.Written.{code_ends}
use Rattle.meaning.proofs.SoundRules.{rule_of, clause_of, rules_of, clauses_of, RulesPass, ClausesPass, RulesSound, ClausesSound, rules_sound, clauses_sound}
use Rattle.meaning.proofs.SoundFile.{level_of, mask_of, start_of, levels_fill, cells_fill, starts_fill, count_at, counts_right, sections_right, header_fills}

-- every check of a file, one by one; the code of the rules ends at `middle`, and that of the clauses at `end`
record Passed (bs : List ℕ) (l : Layout) : Type 0 where
  first : first_checked bs ≡ Ok tt
  counts : counts_checked l ≡ Ok tt
  sections : sections_checked bs l ≡ Ok tt
  masks : through (mask_checked bs l) l.devices 0 tt ≡ Ok tt
  middle : ℕ
  end : ℕ
  rules : RulesPass bs l middle
  clauses : ClausesPass bs l middle end
  full : end ≡ room l
  rule_cells : through (rule_cells_checked bs l) l.rules 0 tt ≡ Ok tt
  clause_cells : through (clause_cells_checked bs l) l.clauses 0 tt ≡ Ok tt

all_passed : (bs : List ℕ) (l : Layout) → checked bs l ≡ Ok tt → Passed bs l
unfolding checked fields_checked expressions_checked cells_checked
all_passed bs l e =
    let first = both (first_checked bs) _ tt e in
    let counts = both (counts_checked l) _ tt first.2 in
    let sections = both (sections_checked bs l) _ tt counts.2 in
    let fields = both (fields_checked bs l) _ tt sections.2 in
    let code = both (expressions_checked bs l) _ tt fields.2 in
    let masks = both (through (mask_checked bs l) l.devices 0 tt) _ tt fields.1 in
    let rules = both (through (λ i. rule_checked bs l (rules_from l + 53 * i)) l.rules 0 0) _ tt masks.2 in
    let clauses = both (through (λ i. clause_checked bs l (clauses_from l + 5 * i)) l.clauses 0 rules.0) _ tt rules.2 in
    let expressions = both (through (λ i _. rule_expressions_checked bs l (rules_from l + 53 * i)) l.rules 0 tt) _ tt code.1 in
    let cells = both (through (rule_cells_checked bs l) l.rules 0 tt) _ tt code.2 in
    record {
      first = first.1;
      counts = counts.1;
      sections = sections.1;
      masks = masks.1;
      middle = rules.0;
      end = clauses.0;
      rules = (rules.1, expressions.1);
      clauses = (clauses.1, expressions.2);
      full = eqb-true clauses.0 (room l) (passed _ _ (Ok tt) tt clauses.2).0;
      rule_cells = cells.1;
      clause_cells = cells.2;
    }

-- the carriers of a rule have the cells that it needs, where `mask` gives the cells of each device
carried_by : (b : Book) (x : Rule) (mask : ℕ → ℕ) (n : ℕ) → devices b ≡ n → ((d : ℕ) → d < n → cells_of b d ≡ mask d) → ((d : ℕ) → d < n → (not (has x.carriers d) || within (needs x) (mask d)) ≡ true) → carried b x ≡ true
carried_by b x mask n count cells holds =
    every_below (λ d. not (has x.carriers d) || within (needs x) (cells_of b d)) (devices b)
    (λ d low. let lt : d < n = omega arith in ap (λ m. not (has x.carriers d) || within (needs x) m) (cells d lt) ∙ holds d lt)

-- the header of a book
abbrev header_of : Book → List ℕ
header_of b =
    header_bytes (devices b) (resources b) (length b.rules) (length b.clauses) (count_cells b.cells) (length (book_code b))

module _ (bs : List ℕ) (l : Layout) where
  devices_are : devices (spelt bs l) ≡ l.devices
  unfolding spelt
  devices_are = length-map-range_with_len (mask_of bs l) 0 l.devices

  resources_are : resources (spelt bs l) ≡ l.resources
  unfolding spelt
  resources_are = length-map-range_with_len (level_of bs) 0 l.resources

  -- what holds of the counts in the file holds of the book's
  with_counts : (P : ℕ → ℕ → Type 0) → P l.devices l.resources → P (devices (spelt bs l)) (resources (spelt bs l))
  with_counts P h = subst (λ n. P n (resources (spelt bs l))) (sym devices_are) (subst (P l.devices) (sym resources_are) h)

  cells_are : (d : ℕ) → d < l.devices → cells_of (spelt bs l) d ≡ mask_of bs l d
  unfolding spelt
  cells_are d lt = get_or-map-range_with_len (mask_of bs l) 0 l.devices d d 0 lt (omega arith)

  rules_count : length (rules_of bs l) ≡ l.rules
  rules_count = length-map-range_with_len (rule_of bs l) 0 l.rules

  clauses_count : length (clauses_of bs l) ≡ l.clauses
  clauses_count = length-map-range_with_len (clause_of bs l) 0 l.clauses

  module _ (fit : Bytes bs) (all : Passed bs l) where
    inside : code_from l + room l ≤ length bs
    inside = (sections_right bs l fit all.sections).1

    rules_are : RulesSound bs l all.middle
    rules_are = rules_sound bs l fit inside all.middle all.rules

    clauses_are : ClausesSound bs l all.middle all.end
    clauses_are = clauses_sound bs l fit inside all.middle all.end all.clauses

    masks_under : every (λ m. under m l.resources) (map (mask_of bs l) (range_with_len 0 l.devices)) ≡ true
    masks_under =
        every_row (λ m. under m l.resources) (mask_of bs l) l.devices (λ d lt. (passed _ _ (Ok tt) tt (each (mask_checked bs l) l.devices tt tt all.masks d lt).2).0)

    all_carried : every (carried (spelt bs l)) (rules_of bs l) ≡ true
    unfolding rule_cells_checked rule_at
    all_carried =
        every_row (carried (spelt bs l)) (rule_of bs l) l.rules
        (λ i lt.
        let cells = (each (rule_cells_checked bs l) l.rules tt tt all.rule_cells i lt).2 in
        carried_by (spelt bs l) (rule_of bs l i) (mask_of bs l) l.devices devices_are cells_are
        (λ d less. (passed _ _ (Ok tt) tt (each _ l.devices tt tt cells d less).2).0))

    all_readable : every (readable (spelt bs l)) (clauses_of bs l) ≡ true
    unfolding clause_cells_checked
    all_readable =
        every_row (readable (spelt bs l)) (clause_of bs l) l.clauses
        (λ i lt.
        let fields = each (λ j. clause_checked bs l (clauses_from l + 5 * j)) l.clauses all.middle all.end all.clauses.0 i lt in
        let device = ltb-true _ l.devices (passed _ _ _ fields.1 fields.2).0 in
        let cells = (each (clause_cells_checked bs l) l.clauses tt tt all.clause_cells i lt).2 in
        ap (within (reads 0 (clause_of bs l i).test)) (cells_are (clause_of bs l i).device device) ∙ (passed _ _ (Ok tt) tt cells).0)

    formed : length (spelt bs l).starts ≡ count_cells (spelt bs l).cells → WellFormed (spelt bs l)
    unfolding spelt
    formed cells_counted =
        let counts = counts_right l all.counts in
        let named = devices_are in
        let known = resources_are in (
          (omega arith, omega arith, omega arith, omega arith),
          (omega (arith, rules_count), omega (arith, clauses_count)),
          (
            every_row (λ x. ltb x 256) (level_of bs) l.resources (λ i lt. lt-ltb (level_of bs i) 256 (fit (32 + i))),
            with_counts (λ _ n. every (λ m. under m n) (map (mask_of bs l) (range_with_len 0 l.devices)) ≡ true) masks_under,
            cells_counted,
            every_row (λ z. ltb (mag z) 2147483648) (start_of bs l) l.cells (λ i lt. lt-ltb _ 2147483648 (read_sfits w32 (four_at bs (starts_from l + 4 * i))).sfits),
          ),
          (
            with_counts (λ n m. every (right_rule n m) (rules_of bs l) ≡ true) rules_are.1,
            with_counts (λ n m. every (right_clause n m) (clauses_of bs l) ≡ true) clauses_are.1,
            all_carried,
            all_readable,
          ),
        )

    -- where the rules' code ends, that of the clauses begins
    middle_is : all.middle ≡ length (rules_code (rules_of bs l))
    middle_is = omega (arith, code_ends rules_are.0)

    code_fills : Fills bs (code_from l) (code_from l + room l) (rules_code (rules_of bs l) ++ clauses_code (clauses_of bs l))
    code_fills =
        let first : code_from l + 0 ≡ code_from l = add-zero (code_from l) in
        let last = ap (λ n. code_from l + n) all.full in
        subst (λ p. Fills bs p (code_from l + room l) (rules_code (rules_of bs l) ++ clauses_code (clauses_of bs l))) first
        (fills_both rules_are.0.there (subst (λ q. Fills bs (code_from l + all.middle) q (clauses_code (clauses_of bs l))) last clauses_are.0.there))

    sections_fill : l.size ≡ length bs → Fills bs 32 (length bs) (sections (spelt bs l))
    unfolding spelt
    sections_fill size =
        let last : code_from l + room l ≡ length bs = omega (arith, inside) in
        fills_both (levels_fill bs l fit)
        (fills_both (cells_fill bs l fit)
        (fills_both (starts_fill bs l fit)
        (fills_both rules_are.0.here
        (fills_both (subst (λ k. Fills bs (clauses_from l) (code_from l) (clauses_bytes k (clauses_of bs l))) middle_is clauses_are.0.here)
        (subst (λ q. Fills bs (code_from l) q (rules_code (rules_of bs l) ++ clauses_code (clauses_of bs l))) last code_fills)))))

-- of the layout that the file itself gives
module _ (bs : List ℕ) where
  cells_sum : count_cells (parsed bs).cells ≡ (layout bs).cells
  unfolding spelt
  cells_sum = count_at bs (cells_from (layout bs)) (cells_from (layout bs)) (layout bs).devices 0 (omega arith)

  starts_count : length (parsed bs).starts ≡ (layout bs).cells
  unfolding spelt
  starts_count = length-map-range_with_len (start_of bs (layout bs)) 0 (layout bs).cells

  module _ (fit : Bytes bs) (all : Passed bs (layout bs)) where
    code_length : length (book_code (parsed bs)) ≡ room (layout bs)
    unfolding spelt
    code_length = omega (arith, (code_fills bs (layout bs) fit all).ends)

    header_is : Fills bs 0 32 (header_of (parsed bs))
    unfolding spelt
    header_is =
        let l = layout bs in
        subst (Fills bs 0 32) (sym (λ i. header_bytes (devices_are bs l i) (resources_are bs l i) (rules_count bs l i) (clauses_count bs l i) (cells_sum i) (code_length i)))
        (header_fills bs l fit all.sections all.first refl refl refl refl)

    is_encoded : bs ≡ encoded (parsed bs)
    unfolding encoded
    is_encoded = is_file bs (encoded (parsed bs)) (fills_both header_is (sections_fill bs (layout bs) fit all refl))

pub sound : (bs : List ℕ) (b : Book) → Bytes bs → reading bs ≡ Ok b → WellFormed b × (bs ≡ encoded b)
unfolding reading
sound bs b fit e =
    let parts = both (checked bs (layout bs)) (λ _. Ok (parsed bs)) b e in
    let all = all_passed bs (layout bs) parts.1 in
    let same : parsed bs ≡ b = (let h = parts.2 in cc) in
    subst (λ x. WellFormed x × (bs ≡ encoded x)) same (formed bs (layout bs) fit all (starts_count bs ∙ sym (cells_sum bs)), is_encoded bs fit all)
