-- Rules and clauses that were read: what their bytes spell is right, and stands in the file as it is written. Assumes nothing.
use Rattle.std.proofs.Common.{◌≡◌, ℕ, ◌+◌, ◌*◌, ◌<◌, ◌≤◌, true, false, cond, eqb, ltb, leb, List, [], ◌∷◌, ◌++◌, map, length, Ok, sym, refl, subst, arith}
use Rattle.std.specs.List.{range_with_len}
use Rattle.std.proofs.lemmas.List.FromFn.{length-map-range_with_len}
use Rattle.std.proofs.lemmas.Bool.{and_from, ltb-true, leb-true}
use Rattle.std.proofs.lemmas.Bool.Decides.{nat_tests}
use Rattle.meaning.specs.Bytes.{byte_at, two_at, four_at, two, four, Bytes}
use Rattle.meaning.specs.Sets.{some_under}
use Rattle.meaning.specs.Checks.{through}
use Rattle.meaning.specs.Expression.{encoded_expression}
use Rattle.meaning.specs.Book.{Rule, Clause}
use Rattle.meaning.specs.File.{slots_code, slots_bytes, head_bytes, rule_code, rule_bytes, rules_code, rules_bytes, clause_bytes, clauses_code, clauses_bytes}
use Rattle.meaning.specs.WellFormed.{every, right_rule, right_clause}
use Rattle.meaning.specs.Layout.{Layout, rules_from, clauses_from, code_from, room}
use Rattle.meaning.specs.Parsed.{rule_at, clause_at}
use Rattle.meaning.specs.Reading.{pair_checked, action_checked, head_checked, rule_checked, clause_checked, expression_checked, values_checked, rule_expressions_checked}
use Rattle.meaning.proofs.Rows.{passed, both}
use Rattle.meaning.proofs.Fills.{Fills, fills_both, byte_fills, two_fills, four_fills}
use Rattle.meaning.proofs.Loops.{each}
use Rattle.meaning.proofs.Written.{Written, code_ends, written_both, written_after, row_sound}
use Rattle.meaning.proofs.SoundActions.{expression_right, expression_written, action_written, action_right}

-- the rule and the clause at p
abbrev rule_in : List ℕ → Layout → ℕ → Rule
rule_in bs l p = rule_at bs (code_from l) p

abbrev clause_in : List ℕ → Layout → ℕ → Clause
clause_in bs l p = clause_at bs (code_from l) p

-- rule i and clause i
abbrev pub rule_of : List ℕ → Layout → ℕ → Rule
rule_of bs l i = rule_in bs l (rules_from l + 53 * i)

abbrev pub clause_of : List ℕ → Layout → ℕ → Clause
clause_of bs l i = clause_in bs l (clauses_from l + 5 * i)

-- all rules and all clauses
abbrev pub rules_of : List ℕ → Layout → List Rule
rules_of bs l = map (rule_of bs l) (range_with_len 0 l.rules)

abbrev pub clauses_of : List ℕ → Layout → List Clause
clauses_of bs l = map (clause_of bs l) (range_with_len 0 l.clauses)

-- the checks of the rules and of their expressions, and of the clauses and theirs; the code that they name ends at `end`
abbrev pub RulesPass : List ℕ → Layout → ℕ → Type 0
RulesPass bs l end =
    (through (λ i. rule_checked bs l (rules_from l + 53 * i)) l.rules 0 0 ≡ Ok end) × (through (λ i _. rule_expressions_checked bs l (rules_from l + 53 * i)) l.rules 0 tt ≡ Ok tt)

abbrev pub ClausesPass : List ℕ → Layout → ℕ → ℕ → Type 0
ClausesPass bs l at end =
    (through (λ i. clause_checked bs l (clauses_from l + 5 * i)) l.clauses 0 at ≡ Ok end) × (through (λ i _. expression_checked bs l false (clauses_from l + 5 * i + 1)) l.clauses 0 tt ≡ Ok tt)

-- the rules and the clauses stand as they are written, and are right
abbrev pub RulesSound : List ℕ → Layout → ℕ → Type 0
RulesSound bs l end =
    Written bs (code_from l) (rules_from l) (clauses_from l) 0 end (rules_bytes 0 (rules_of bs l)) (rules_code (rules_of bs l)) × (every (right_rule l.devices l.resources) (rules_of bs l) ≡ true)

abbrev pub ClausesSound : List ℕ → Layout → ℕ → ℕ → Type 0
ClausesSound bs l at end =
    Written bs (code_from l) (clauses_from l) (code_from l) at end (clauses_bytes at (clauses_of bs l)) (clauses_code (clauses_of bs l)) × (every (right_clause l.devices l.resources) (clauses_of bs l) ≡ true)

-- a kind below 2 is the one that its truth writes
kind_byte : (n : ℕ) → n < 2 → n ≡ cond (eqb n 1) 1 0
kind_byte n h = grind (arith, nat_tests)

-- the nine bytes of a rule before the pair of its condition
abbrev early_bytes : Rule → List ℕ
early_bytes r = two r.carriers ++ (four r.events ++ (cond r.remote 1 0 ∷ length r.defaults ∷ length r.tasks ∷ []))

-- a rule stands where its head and its two actions do
rule_whole : {bs : List ℕ} {c p q s t at a b end : ℕ} (r : Rule) → Written bs c p q at a (head_bytes at r) (encoded_expression r.condition) → Written bs c q s a b (slots_bytes 4 a r.defaults) (slots_code r.defaults) → Written bs c s t b end (slots_bytes 4 b r.tasks) (slots_code r.tasks) → Written bs c p t at end (rule_bytes at r) (rule_code r)
rule_whole {bs} {c} {p} {q} {s} {t} {at} {a} {b} {end} r head defaults tasks =
    let code = slots_code r.defaults in
    let actions = written_both defaults (subst (λ k. Written bs c s t b end (slots_bytes 4 k r.tasks) (slots_code r.tasks)) (code_ends defaults) tasks) in
    written_both head (subst (λ k. Written bs c q t a end (slots_bytes 4 k r.defaults ++ slots_bytes 4 (k + length code) r.tasks) (code ++ slots_code r.tasks)) (code_ends head) actions)

-- what the head of a rule at p was checked for
pub head_right : (bs : List ℕ) (l : Layout) (p : ℕ) → head_checked bs l p ≡ Ok tt → (some_under (two_at bs p) l.devices ≡ true) × (some_under (four_at bs (p + 2)) l.resources ≡ true) × (byte_at bs (p + 6) < 2) × (byte_at bs (p + 7) ≤ 4) × (byte_at bs (p + 8) ≤ 4)
unfolding head_checked
head_right bs l p e =
    let carriers = passed (some_under (two_at bs p) l.devices) _ _ tt e in
    let events = passed (some_under (four_at bs (p + 2)) l.resources) _ _ tt carriers.1 in
    let kind = passed (ltb (byte_at bs (p + 6)) 2) _ _ tt events.1 in
    let defaults = passed (leb (byte_at bs (p + 7)) 4) _ _ tt kind.1 in
    let tasks = passed (leb (byte_at bs (p + 8)) 4) _ _ tt defaults.1 in
    (carriers.0, events.0, ltb-true _ 2 kind.0, leb-true _ 4 defaults.0, leb-true _ 4 tasks.0)

module _ (bs : List ℕ) (l : Layout) (fit : Bytes bs) (fits : code_from l + room l ≤ length bs) where
  module _ (p : ℕ) where
    early_fills : byte_at bs (p + 6) < 2 → Fills bs p (p + 9) (early_bytes (rule_in bs l p))
    unfolding rule_at
    early_fills kind =
        let r = rule_in bs l p in
        fills_both (two_fills bs p (p + 2) r.carriers fit refl refl)
        (fills_both (four_fills bs (p + 2) (p + 6) r.events fit (omega arith) refl)
        (fills_both (byte_fills bs (p + 6) (p + 7) (cond r.remote 1 0) (omega arith) (kind_byte (byte_at bs (p + 6)) kind))
        (fills_both (byte_fills bs (p + 7) (p + 8) (length r.defaults) (omega arith) (sym (length-map-range_with_len _ 0 (byte_at bs (p + 7)))))
        (byte_fills bs (p + 8) (p + 9) (length r.tasks) (omega arith) (sym (length-map-range_with_len _ 0 (byte_at bs (p + 8))))))))

    -- a rule that was checked, with its expressions
    rule_sound : (q at end : ℕ) → q ≡ p + 53 → rule_checked bs l p at ≡ Ok end → rule_expressions_checked bs l p ≡ Ok tt → Written bs (code_from l) p q at end (rule_bytes at (rule_in bs l p)) (rule_code (rule_in bs l p)) × (right_rule l.devices l.resources (rule_in bs l p) ≡ true)
    unfolding rule_checked rule_expressions_checked rule_at
    rule_sound q at end on e f =
        let remote = eqb (byte_at bs (p + 6)) 1 in
        let n = byte_at bs (p + 7) in
        let m = byte_at bs (p + 8) in
        let top = both (head_checked bs l p) _ end e in
        let condition = both (pair_checked bs l (p + 9) at) _ end top.2 in
        let actions = both (action_checked bs l (p + 13) n condition.0) _ end condition.2 in
        let test = both (expression_checked bs l remote (p + 9)) _ tt f in
        let values = both (values_checked bs l false (p + 13) n) _ tt test.2 in
        let head = head_right bs l p top.1 in (
          rule_whole (rule_in bs l p)
              (written_after (early_fills head.2) (expression_written bs l fit fits remote (p + 9) test.1 (p + 13) at condition.0 (omega arith) condition.1))
              (action_written bs l fit fits false (p + 13) n condition.0 actions.0 head.3 actions.1 values.1 (p + 33) (omega arith))
              (action_written bs l fit fits remote (p + 33) m actions.0 end head.4 actions.2 values.2 q (omega arith)),
          and_from _ _ head.0 (and_from _ _ head.1 (and_from _ _ (expression_right bs l fit fits remote (p + 9) test.1)
              (and_from _ _
              (action_right bs l fit fits false (p + 13) n condition.0 actions.0 head.3 actions.1 values.1)
              (action_right bs l fit fits remote (p + 33) m actions.0 end head.4 actions.2 values.2)))),
        )

    -- a clause that was checked, with its expression
    clause_sound : (q at end : ℕ) → q ≡ p + 5 → clause_checked bs l p at ≡ Ok end → expression_checked bs l false (p + 1) ≡ Ok tt → Written bs (code_from l) p q at end (clause_bytes at (clause_in bs l p)) (encoded_expression (clause_in bs l p).test) × (right_clause l.devices l.resources (clause_in bs l p) ≡ true)
    clause_sound q at end on e f =
        let device = passed (ltb (byte_at bs p) l.devices) _ (pair_checked bs l (p + 1) at) end e in (
          written_after (byte_fills bs p (p + 1) (byte_at bs p) refl refl) (expression_written bs l fit fits false (p + 1) f q at end (omega arith) device.1),
          and_from _ _ device.0 (expression_right bs l fit fits false (p + 1) f),
        )

  pub rules_sound : (end : ℕ) → RulesPass bs l end → RulesSound bs l end
  unfolding rules_bytes
  rules_sound end pass =
      let place = λ (i : ℕ). rules_from l + 53 * i in
      row_sound bs (code_from l) l.rules (rule_of bs l) place (λ i. rule_checked bs l (place i)) rule_bytes rule_code rules_bytes
      (λ at. refl) (λ at r rs. refl) (right_rule l.devices l.resources)
      (λ i at next lt e. rule_sound (place i) (place (i + 1)) at next (omega arith) e (each (λ j _. rule_expressions_checked bs l (place j)) l.rules tt tt pass.1 i lt).2)
      (rules_from l) (clauses_from l) 0 end (omega arith) refl pass.0

  pub clauses_sound : (at end : ℕ) → ClausesPass bs l at end → ClausesSound bs l at end
  unfolding clauses_bytes
  clauses_sound at end pass =
      let place = λ (i : ℕ). clauses_from l + 5 * i in
      row_sound bs (code_from l) l.clauses (clause_of bs l) place (λ i. clause_checked bs l (place i)) clause_bytes (λ c. encoded_expression c.test) clauses_bytes
      (λ k. refl) (λ k c cs. refl) (right_clause l.devices l.resources)
      (λ i k next lt e. clause_sound (place i) (place (i + 1)) k next (omega arith) e (each (λ j _. expression_checked bs l false (place j + 1)) l.clauses tt tt pass.1 i lt).2)
      (clauses_from l) (code_from l) at end (omega arith) refl pass.0
