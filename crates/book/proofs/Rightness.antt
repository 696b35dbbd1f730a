-- What is right stays right in a wider scope, so the code of a right book can be evaluated and reads only resources below 32.
-- Assumes nothing.
use Rattle.std.proofs.Common.{◌≡◌, ℕ, zero, suc, ◌<◌, ◌≤◌, Bool, true, false, ltb, leb, List, [], ◌∷◌, map, length, get_or, take, refl, ap, ◌∙◌, arith}
use Rattle.std.proofs.lemmas.Bool.{ltb-true, lt-ltb, leb-true, and_parts, and_from}
use Rattle.std.proofs.lemmas.List.{length-map}
use Rattle.meaning.specs.declared.instruction.Instruction.{Instruction}
use Rattle.meaning.specs.declared.instruction.Instruction.TheVariants.{Constant, Own, Receiver, Apply}
use Rattle.meaning.specs.Book as meant
use Rattle.meaning.specs.Bytes.{part}
use Rattle.meaning.specs.Expression.{Expression, Scope, named, may_stand, deepened, right_from, right, encoded_expression, decoded}
use Rattle.meaning.specs.Sets.{some_under}
use Rattle.meaning.specs.WellFormed.{every, distinct, right_action}
use Rattle.book.specs.declared.book.Book.{Book}
use Rattle.book.specs.declared.rule.Slot.{Slot}
use Rattle.book.specs.declared.rule.Action.{Action}
use Rattle.book.specs.declared.rule.Rule.{Rule}
use Rattle.book.specs.declared.rule.Clause.{Clause}
use Rattle.book.specs.Means.{code_of, slot_means, action_means, rule_means, means}
use Rattle.book.specs.declared.part.Part.{Part}
use Rattle.book.specs.declared.part.Part.TheVariants.{Default, Task}
use Rattle.book.specs.Parts.{action_of}
use Rattle.book.specs.Rights.{widest, RightCode, RightSlot, RightAction, RightRule, RightClause}
use Rattle.book.specs.Runnable.{Runnable}
use Rattle.book.specs.Sides.{Small}
use Rattle.book.proofs.Smallness.{from_small}

-- what holds of each element's image holds of that of the one at k
pub every_at : {X Y : Type 0} (p : Y → Bool) (f : X → Y) (xs : List X) (k : ℕ) (d : X) → every p (map f xs) ≡ true → k < length xs → p (f (get_or xs k d)) ≡ true
unfolding every
every_at p f [] k d h lt = absurd (omega arith)
every_at p f (x ∷ xs) zero d h lt = (and_parts (p (f x)) (every p (map f xs)) h).0
every_at p f (x ∷ xs) (suc k) d h lt = every_at p f xs k d (and_parts (p (f x)) (every p (map f xs)) h).1 (omega arith)

-- what holds of each element of a list because another test does
every_more : {X : Type 0} (p q : X → Bool) → ((x : X) → p x ≡ true → q x ≡ true) → (xs : List X) → every p xs ≡ true → every q xs ≡ true
unfolding every
every_more p q more [] h = refl
every_more p q more (x ∷ xs) h =
    let (here, rest) = and_parts (p x) (every p xs) h in
    and_from (q x) (every q xs) (more x here) (every_more p q more xs rest)

-- what is right in a scope is right in one with as many resources or more that may read a receiver
module _ (s t : Scope) (more : s.resources ≤ t.resources) (wide : t.receiver ≡ true) where
  named_wider : (i : Instruction) → named s i ≡ true → named t i ≡ true
  named_wider (Constant v) h = h
  named_wider (Own r) h = lt-ltb r t.resources (omega (arith, ltb-true r s.resources h))
  named_wider (Receiver r) h =
      and_from (ltb r t.resources) t.receiver (lt-ltb r t.resources (omega (arith, ltb-true r s.resources (and_parts (ltb r s.resources) s.receiver h).0))) wide
  named_wider (Apply o) h = h

  from_wider : (depth : ℕ) (e : Expression) → right_from s depth e ≡ true → right_from t depth e ≡ true
  unfolding right_from
  from_wider depth [] h = h
  from_wider depth (i ∷ e) h =
      let (stands, rest) = and_parts (may_stand s depth i) (right_from s (deepened depth i) e) h in
      let (named-here, deep) = and_parts (named s i) _ stands in
      and_from (may_stand t depth i) (right_from t (deepened depth i) e) (and_from (named t i) _ (named_wider i named-here) deep) (from_wider (deepened depth i) e rest)

  right_wider : (e : Expression) → right s e ≡ true → right t e ≡ true
  right_wider e h =
      let (from, short) = and_parts (right_from s 0 e) (leb (length (encoded_expression e)) 64) h in
      and_from (right_from t 0 e) _ (from_wider 0 e from) short

  pub action_wider : (ss : List meant.Slot) → right_action s ss ≡ true → right_action t ss ≡ true
  action_wider ss h =
      let (few, more-parts) = and_parts (leb (length ss) 4) _ h in
      let (targets, rest) = and_parts (every (λ (x : meant.Slot). ltb x.target s.resources) ss) _ more-parts in
      let (apart, values) = and_parts (distinct ss) (every (λ (x : meant.Slot). right s x.value) ss) rest in
      and_from (leb (length ss) 4) _ few (and_from (every (λ (x : meant.Slot). ltb x.target t.resources) ss) _ (every_more _ _ (λ x below. lt-ltb x.target t.resources (omega (arith, ltb-true x.target s.resources below))) ss targets) (and_from (distinct ss) _ apart (every_more _ _ (λ x fine. right_wider x.value fine) ss values)))

-- right code can be evaluated, and it reads only resources below 32
module _ (s : Scope) (few : s.resources ≤ 32) where
  pub right_code : (code : List ℕ) → right s (decoded code) ≡ true → RightCode code
  right_code code h =
      from_wider s (widest 32) few refl 0 (decoded code) (and_parts (right_from s 0 (decoded code)) _ h).0

pub code_small : (code : List ℕ) → RightCode code → Small code
code_small code h = from_small (widest 32) (omega arith) 0 (decoded code) h

pub code_runnable : (code : List ℕ) → RightCode code → Runnable code
code_runnable code h = record { scope = widest 32; right = h }

-- each slot that a right action uses is right
pub slot_right : (b : Book) (a : Action) → RightAction b a → (used : List Slot) → used ≡ take a.count a.slots → (k : ℕ) (d : Slot) → k < length used → RightSlot b (get_or used k d)
slot_right b a r used is k d lt =
    let s = widest (meant.resources (means b)) in
    let f = slot_means (code_of b) in
    let sets = λ (x : meant.Slot). ltb x.target s.resources in
    let reads = λ (x : meant.Slot). right s x.value in
    let ss = map f used in
    let action : right_action s ss ≡ true = ap (λ xs. right_action s (map f xs)) is ∙ r.right in
    let (targets, more) = and_parts (every sets ss) _ (and_parts (leb (length ss) 4) _ action).1 in
    let values = (and_parts (distinct ss) _ more).1 in
    record {
      target = omega (arith, r.few, ltb-true _ _ (every_at sets f used k d targets lt));
      value = right_code s r.few _ (every_at reads f used k d values lt);
    }

-- a right action uses at most four slots
pub slots_few : (b : Book) (a : Action) → RightAction b a → (used : List Slot) → used ≡ take a.count a.slots → length used ≤ 4
slots_few b a r used is =
    let few = leb-true (length (action_means (code_of b) a)) 4 (and_parts (leb (length (action_means (code_of b) a)) 4) _ r.right).0 in
    omega (arith, few, ap length is, length-map (take a.count a.slots) (slot_means (code_of b)))

module _ (b : Book) (r : Rule) (h : RightRule b r) where
  -- the condition, then the actions
  parts : RightCode (part (code_of b) r.condition.from r.condition.size) × RightAction b r.defaults × RightAction b r.tasks
  parts =
      let x = rule_means (code_of b) r in
      let n = meant.resources (means b) in
      let own : Scope = record { resources = n; receiver = false } in
      let wide : Scope = record { resources = n; receiver = x.remote } in
      let events = (and_parts (some_under x.carriers (meant.devices (means b))) _ h.right).1 in
      let (condition, actions) = and_parts (right wide x.condition) _ (and_parts (some_under x.events n) _ events).1 in
      let (defaults, tasks) = and_parts (right_action own x.defaults) (right_action wide x.tasks) actions in
      (right_code wide h.few _ condition, record { few = h.few; right = action_wider own (widest n) (omega arith) refl _ defaults }, record { few = h.few; right = action_wider wide (widest n) (omega arith) refl _ tasks })

  pub condition_right : RightCode (part (code_of b) r.condition.from r.condition.size)
  condition_right = parts.0

  pub action_right : (p : Part) → RightAction b (action_of r p)
  action_right Default = parts.1
  action_right Task = parts.2

-- so is the test of a right clause
pub test_right : (b : Book) (x : Clause) → RightClause b x → RightCode (part (code_of b) x.test.from x.test.size)
test_right b x h =
    right_code (record { resources = meant.resources (means b); receiver = false }) h.few _ (and_parts (ltb x.device (meant.devices (means b))) _ h.right).1
