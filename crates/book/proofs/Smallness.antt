-- What is right reads and sets only resources. There are at most 32 of them. Assumes nothing.
use Rattle.std.proofs.Common.{◌≡◌, ℕ, ◌+◌, ◌*◌, ◌<◌, ◌≤◌, Bool, true, false, ltb, leb, List, [], ◌∷◌, All, map, length, Ok, sym, refl, ap, ◌∙◌, arith}
use Rattle.std.specs.List.{range_with_len}
use Rattle.std.proofs.lemmas.List.FromFn.{length-map-range_with_len, get_or-map-range_with_len}
use Rattle.std.proofs.lemmas.Bool.{ltb-true, lt-ltb, and_parts, and_from}
use Rattle.meaning.specs.declared.instruction.Instruction.{Instruction}
use Rattle.meaning.specs.declared.instruction.Instruction.TheVariants.{Constant, Own, Receiver, Apply}
use Rattle.meaning.specs.Book.{Slot, Rule}
use Rattle.meaning.specs.Expression.{Expression, Scope, named, may_stand, deepened, right_from, right, encoded_expression}
use Rattle.meaning.specs.Bytes.{Bytes}
use Rattle.meaning.specs.Checks.{through}
use Rattle.meaning.specs.Layout.{Layout, rules_from, clauses_from, code_from, room}
use Rattle.meaning.specs.Reading.{mask_checked, rule_checked, fields_checked, expression_checked, rule_expressions_checked, expressions_checked}
use Rattle.meaning.specs.Sets.{some_under}
use Rattle.meaning.specs.WellFormed.{every, distinct, right_action, right_rule}
use Rattle.meaning.proofs.Loops.{each, every_at}
use Rattle.meaning.proofs.Rows.{both}
use Rattle.meaning.proofs.SoundActions.{expression_right}
use Rattle.meaning.proofs.SoundRules.{rule_of, clause_of, rules_of, rules_sound}
use Rattle.book.specs.Sides.{small}
use Rattle.book.specs.Small.{SmallSlot, SmallRule}

module _ (s : Scope) (few : s.resources ≤ 32) where
  named_small : (i : Instruction) → named s i ≡ true → small i ≡ true
  named_small (Constant v) h = refl
  named_small (Own r) h = lt-ltb r 32 (omega (arith, ltb-true r s.resources h))
  named_small (Receiver r) h = lt-ltb r 32 (omega (arith, ltb-true r s.resources (and_parts (ltb r s.resources) s.receiver h).0))
  named_small (Apply o) h = refl

  pub from_small : (depth : ℕ) (e : Expression) → right_from s depth e ≡ true → every small e ≡ true
  unfolding right_from every
  from_small depth [] h = refl
  from_small depth (i ∷ e) h =
      let (stands, more) = and_parts (may_stand s depth i) (right_from s (deepened depth i) e) h in
      and_from (small i) (every small e) (named_small i (and_parts (named s i) _ stands).0) (from_small (deepened depth i) e more)

  pub right_small : (e : Expression) → right s e ≡ true → every small e ≡ true
  right_small e h = from_small 0 e (and_parts (right_from s 0 e) (leb (length (encoded_expression e)) 64) h).0

  action_small : (xs : List Slot) → right_action s xs ≡ true → All SmallSlot xs
  action_small xs h k d lt =
      let (targets, more) = and_parts (every (λ x. ltb x.target s.resources) xs) _ (and_parts (leb (length xs) 4) _ h).1 in
      let values = (and_parts (distinct xs) _ more).1 in
      (omega (arith, ltb-true _ _ (every_at (λ x. ltb x.target s.resources) xs k d targets lt)), right_small _ (every_at (λ x. right s x.value) xs k d values lt))

rule_small : (d r : ℕ) (x : Rule) → r ≤ 32 → right_rule d r x ≡ true → SmallRule x
rule_small d r x few h =
    let own : Scope = record { resources = r; receiver = false } in
    let wide : Scope = record { resources = r; receiver = x.remote } in
    let codes = (and_parts (some_under x.events r) _ (and_parts (some_under x.carriers d) _ h).1).1 in
    let (condition, actions) = and_parts (right wide x.condition) _ codes in
    let (defaults, tasks) = and_parts (right_action own x.defaults) _ actions in
    record {
      condition = right_small wide few x.condition condition;
      defaults = action_small own few x.defaults defaults;
      tasks = action_small wide few x.tasks tasks;
    }

-- a test that holds of a row holds at each place of it
at_row : {X : Type 0} (q : X → Bool) (g : ℕ → X) (n : ℕ) → every q (map g (range_with_len 0 n)) ≡ true → (i : ℕ) → i < n → q (g i) ≡ true
at_row q g n all i lt =
    sym (ap q (get_or-map-range_with_len g 0 n i i (g i) lt (omega arith))) ∙ every_at q (map g (range_with_len 0 n)) i (g i) all (omega (arith, length-map-range_with_len g 0 n))

-- a file whose fields and expressions went through the checks
module _ (bs : List ℕ) (l : Layout) (fit : Bytes bs) (inside : code_from l + room l ≤ length bs) (few : l.resources ≤ 32) (fields : fields_checked bs l ≡ Ok tt) (expressions : expressions_checked bs l ≡ Ok tt) where
  rules_right : every (right_rule l.devices l.resources) (rules_of bs l) ≡ true
  unfolding fields_checked expressions_checked
  rules_right =
      let place = λ (i : ℕ). rules_from l + 53 * i in
      let masks = both (through (mask_checked bs l) l.devices 0 tt) _ tt fields in
      let rules = both (through (λ i. rule_checked bs l (place i)) l.rules 0 0) _ tt masks.2 in
      let values = both (through (λ i _. rule_expressions_checked bs l (place i)) l.rules 0 tt) _ tt expressions in
      (rules_sound bs l fit inside rules.0 (rules.1, values.1)).1

  pub rules_small : (i : ℕ) → i < l.rules → SmallRule (rule_of bs l i)
  rules_small i lt =
      rule_small l.devices l.resources (rule_of bs l i) few (at_row (right_rule l.devices l.resources) (rule_of bs l) l.rules rules_right i lt)

  pub clauses_small : (i : ℕ) → i < l.clauses → every small (clause_of bs l i).test ≡ true
  unfolding expressions_checked
  clauses_small i lt =
      let tests = both (through (λ j _. rule_expressions_checked bs l (rules_from l + 53 * j)) l.rules 0 tt) _ tt expressions in
      let test = each (λ j _. expression_checked bs l false (clauses_from l + 5 * j + 1)) l.clauses tt tt tests.2 i lt in
      right_small (record { resources = l.resources; receiver = false }) few _ (expression_right bs l fit inside false (clauses_from l + 5 * i + 1) test.2)
