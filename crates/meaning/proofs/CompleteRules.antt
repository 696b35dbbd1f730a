-- Rules and clauses whose bytes and code stand in a file pass their checks and are read back: each of their fields stands at its
-- place. Assumes nothing.
use Rattle.std.proofs.Common.{◌≡◌, ℕ, zero, suc, ◌+◌, ◌*◌, ◌≤◌, Bool, true, false, cond, eqb, ltb, leb, List, [], ◌∷◌, ◌++◌, length, Ok, sym, refl, ap, ◌∙◌, add-zero, arith}
use Rattle.std.proofs.lemmas.List.{length-append}
use Rattle.std.proofs.lemmas.Bool.{and_parts}
use Rattle.meaning.specs.Bytes.{byte_at, two_at, four_at}
use Rattle.meaning.specs.Sets.{some_under}
use Rattle.meaning.specs.Expression.{encoded_expression, right as right_expression}
use Rattle.meaning.specs.Book.{Slot, Rule, Clause}
use Rattle.meaning.specs.File.{pair, size_of, slots_code, slots_bytes, head_bytes, rule_code, rule_bytes, clause_bytes}
use Rattle.meaning.specs.WellFormed.{right_action, right_rule, right_clause}
use Rattle.meaning.specs.Layout.{Layout, code_from, room}
use Rattle.meaning.specs.Parsed.{expression_at, slots_at, rule_at, clause_at}
use Rattle.meaning.specs.Reading.{action_checked, values_checked, expression_checked, head_checked, rule_checked, rule_expressions_checked, clause_checked}
use Rattle.meaning.proofs.Stands.{left, right, head, two_read, four_read}
use Rattle.meaning.proofs.Placed.{granted, bound, Held, inside, held_front, held_back}
use Rattle.meaning.proofs.CompleteActions.{Named, pair_passes, expression_read, expression_passes, action_passes, values_pass, slots_read}

pub slots_long : (n at : ℕ) (ss : List Slot) → length (slots_bytes n at ss) ≡ 5 * n
unfolding slots_bytes
slots_long zero at ss = refl
slots_long (suc n) at [] = omega (arith, slots_long n at [])
slots_long (suc n) at (s ∷ ss) = omega (arith, slots_long n (at + size_of s.value) ss)

-- the kind of a rule is read as it was written
kind_of : (t : Bool) → eqb (cond t 1 0) 1 ≡ t
kind_of true = refl
kind_of false = refl

kind_small : (t : Bool) → ltb (cond t 1 0) 2 ≡ true
kind_small true = refl
kind_small false = refl

module _ (bs : List ℕ) (l : Layout) (long : code_from l + room l ≤ length bs) where
  -- the rule r stands at p, and its code begins at the offset `at`
  module _ (p at : ℕ) (r : Rule) (held : Held bs l p at (rule_bytes at r) (rule_code r)) (good : right_rule l.devices l.resources r ≡ true) where
    -- where the code of the defaults and that of the tasks begin
    abbrev defaults_from : ℕ
    defaults_from = at + size_of r.condition

    abbrev tasks_from : ℕ
    tasks_from = defaults_from + length (slots_code r.defaults)

    abbrev defaults_bytes : List ℕ
    defaults_bytes = slots_bytes 4 defaults_from r.defaults

    abbrev tasks_bytes : List ℕ
    tasks_bytes = slots_bytes 4 tasks_from r.tasks

    abbrev actions_code : List ℕ
    actions_code = slots_code r.defaults ++ slots_code r.tasks

    parts : (some_under r.carriers l.devices ≡ true) × (some_under r.events l.resources ≡ true) × (right_expression (record { resources = l.resources; receiver = r.remote }) r.condition ≡ true) × (right_action (record { resources = l.resources; receiver = false }) r.defaults ≡ true) × (right_action (record { resources = l.resources; receiver = r.remote }) r.tasks ≡ true)
    parts =
        let first = and_parts _ _ good in
        let second = and_parts _ _ first.1 in
        let third = and_parts _ _ second.1 in
        let last = and_parts _ _ third.1 in
        (first.0, second.0, third.0, last.0, last.1)

    pub carriers_read : two_at bs p ≡ r.carriers
    carriers_read = two_read bs p r.carriers (inside bs p p 0 2 (rule_bytes at r) (sym (add-zero p)) held.bytes_stand)

    events_read : four_at bs (p + 2) ≡ r.events
    events_read = four_read bs (p + 2) r.events (inside bs p (p + 2) 2 4 (rule_bytes at r) refl held.bytes_stand)

    kind_read : byte_at bs (p + 6) ≡ cond r.remote 1 0
    kind_read = held.bytes_stand 6 (omega arith)

    remote_read : eqb (byte_at bs (p + 6)) 1 ≡ r.remote
    remote_read = ap (λ k. eqb k 1) kind_read ∙ kind_of r.remote

    defaults_counted : byte_at bs (p + 7) ≡ length r.defaults
    defaults_counted = held.bytes_stand 7 (omega arith)

    tasks_counted : byte_at bs (p + 8) ≡ length r.tasks
    tasks_counted = held.bytes_stand 8 (omega arith)

    condition_held : Named bs l (p + 9) at r.condition
    condition_held = held_front (encoded_expression r.condition) actions_code (inside bs p (p + 9) 9 4 (rule_bytes at r) refl held.bytes_stand) held

    actions_held : Held bs l (p + 13) defaults_from (defaults_bytes ++ tasks_bytes) actions_code
    actions_held = held_back (encoded_expression r.condition) actions_code (right bs p (p + 13) (head_bytes at r) (defaults_bytes ++ tasks_bytes) refl held.bytes_stand) held

    defaults_held : Held bs l (p + 13) defaults_from defaults_bytes (slots_code r.defaults)
    defaults_held = held_front (slots_code r.defaults) (slots_code r.tasks) (left bs (p + 13) defaults_bytes tasks_bytes actions_held.bytes_stand) actions_held

    tasks_held : Held bs l (p + 33) tasks_from tasks_bytes (slots_code r.tasks)
    tasks_held =
        let after : p + 33 ≡ p + 13 + length defaults_bytes = omega (arith, slots_long 4 defaults_from r.defaults) in
        held_back (slots_code r.defaults) (slots_code r.tasks) (right bs (p + 13) (p + 33) defaults_bytes tasks_bytes after actions_held.bytes_stand) actions_held

    head_passes : head_checked bs l p ≡ Ok tt
    unfolding head_checked
    head_passes =
        granted _ _ _ (ap (λ m. some_under m l.devices) carriers_read ∙ parts.0)
        ∙ granted _ _ _ (ap (λ m. some_under m l.resources) events_read ∙ parts.1)
        ∙ granted _ _ _ (ap (λ k. ltb k 2) kind_read ∙ kind_small r.remote)
        ∙ granted _ _ _ (ap (λ k. leb k 4) defaults_counted ∙ (and_parts _ _ parts.3).0)
        ∙ granted _ _ _ (ap (λ k. leb k 4) tasks_counted ∙ (and_parts _ _ parts.4).0)

    pub rule_passes : rule_checked bs l p at ≡ Ok (at + length (rule_code r))
    unfolding rule_checked
    rule_passes =
        let sum : tasks_from + length (slots_code r.tasks) ≡ at + length (rule_code r) = omega (arith, length-append (encoded_expression r.condition) actions_code, length-append (slots_code r.defaults) (slots_code r.tasks)) in
        let defaults = action_passes bs l long (p + 13) false defaults_from r.defaults parts.3 defaults_held in
        let tasks = action_passes bs l long (p + 33) r.remote tasks_from r.tasks parts.4 tasks_held in
        bound _ _ _ head_passes
        ∙ bound _ _ _ (pair_passes bs l long (p + 9) at r.condition condition_held)
        ∙ bound _ _ _ (ap (λ k. action_checked bs l (p + 13) k defaults_from) defaults_counted ∙ defaults)
        ∙ ap (λ k. action_checked bs l (p + 33) k tasks_from) tasks_counted ∙ tasks ∙ ap Ok sum

    pub rule_expressions_pass : rule_expressions_checked bs l p ≡ Ok tt
    unfolding rule_expressions_checked
    rule_expressions_pass =
        let condition = expression_passes bs l long (p + 9) at r.condition condition_held r.remote parts.2 in
        let defaults = values_pass bs l long (p + 13) false defaults_from r.defaults parts.3 defaults_held in
        let tasks = values_pass bs l long (p + 33) r.remote tasks_from r.tasks parts.4 tasks_held in
        bound _ _ _ (ap (λ t. expression_checked bs l t (p + 9)) remote_read ∙ condition)
        ∙ bound _ _ _ (ap (λ k. values_checked bs l false (p + 13) k) defaults_counted ∙ defaults)
        ∙ (λ i. values_checked bs l (remote_read i) (p + 33) (tasks_counted i)) ∙ tasks

    pub rule_read : rule_at bs (code_from l) p ≡ r
    unfolding rule_at
    rule_read =
        let condition = expression_read bs l long (p + 9) at r.condition condition_held _ parts.2 in
        let defaults = ap (λ k. slots_at bs (code_from l) (p + 13) k) defaults_counted ∙ slots_read bs l long (p + 13) false defaults_from r.defaults parts.3 defaults_held in
        let tasks = ap (λ k. slots_at bs (code_from l) (p + 33) k) tasks_counted ∙ slots_read bs l long (p + 33) r.remote tasks_from r.tasks parts.4 tasks_held in
        λ i. record { carriers = carriers_read i; events = events_read i; remote = remote_read i; condition = condition i; defaults = defaults i; tasks = tasks i }

  -- the clause x stands at p, and its code begins at the offset `at`
  module _ (p at : ℕ) (x : Clause) (held : Held bs l p at (clause_bytes at x) (encoded_expression x.test)) (good : right_clause l.devices l.resources x ≡ true) where
    pub device_read : byte_at bs p ≡ x.device
    device_read = head bs p x.device (pair at (size_of x.test)) held.bytes_stand

    test_held : Named bs l (p + 1) at x.test
    test_held =
        record { bytes_stand = right bs p (p + 1) (x.device ∷ []) (pair at (size_of x.test)) refl held.bytes_stand; code_stands = held.code_stands; fits = held.fits }

    pub clause_passes : clause_checked bs l p at ≡ Ok (at + size_of x.test)
    clause_passes =
        granted _ _ _ (ap (λ d. ltb d l.devices) device_read ∙ (and_parts _ _ good).0) ∙ pair_passes bs l long (p + 1) at x.test test_held

    pub test_passes : expression_checked bs l false (p + 1) ≡ Ok tt
    test_passes = expression_passes bs l long (p + 1) at x.test test_held false (and_parts _ _ good).1

    pub test_read : expression_at bs (code_from l) (p + 1) ≡ x.test
    test_read = expression_read bs l long (p + 1) at x.test test_held _ (and_parts _ _ good).1

    pub clause_read : clause_at bs (code_from l) p ≡ x
    clause_read = λ i. record { device = device_read i; test = test_read i }
