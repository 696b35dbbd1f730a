-- The sources of a part are at or below its lane, and those of a target's value at or below the target: none of these flows is
-- forbidden, and the lane is the greatest lower bound of the targets. Assumes nothing.
use Rattle.std.proofs.Common.{◌≡◌, ℕ, ◌+◌, ◌-◌, ◌<◌, ◌≤◌, true, ◌&&◌, ◌||◌, eqb, ltb, leb, List, [], ◌∷◌, length, refl, ap, ◌∙◌, ⊎_elim, arith}
use Rattle.std.specs.List.{AllByRecursion as All}
use Rattle.std.proofs.ByRecursion.{All-get_or}
use Rattle.std.proofs.lemmas.Bool.{and_parts, and_from, or_left, or_right, cases_Bool, both_ways, not_from_false, ltb-true, lt-ltb, le-leb, cond_both}
use Rattle.meaning.specs.Book.{Book, Slot, devices, resources}
use Rattle.meaning.specs.Expression.{reads, asks, encoded_expression}
use Rattle.meaning.specs.Flow.{Flow, level, both_reads, set_by, read_for, watches, watched, sources, clause_flow, by_rule, by_clause, forbidden}
use Rattle.meaning.specs.FlowList.{flow}
use Rattle.meaning.specs.Levels.{Order, Meets}
use Rattle.meaning.specs.Sets.{has, under, some_under}
use Rattle.meaning.specs.WellFormed.{right_action, right_rule, right_clause}
use Rattle.meaning.proofs.Loops.{every_at}
use Rattle.runs.specs.Clauses.{clause_at}
use Rattle.runs.specs.Promises.{Accepted}
use Rattle.runs.specs.Update.{rule_at, slots_at, met, level_of, lane_of}
use Rattle.runs.proofs.Each.{all_with}
use Rattle.runs.proofs.Members.{under_has}
use Rattle.runs.proofs.Sources.{Grounded, grounded, Slotted, slotted, set_all, read_onto, watched_onto}
use Rattle.runs.proofs.Values.{asks_nothing}

-- a part of a rule of the book that has a target
pub record Part (b : Book) (i p : ℕ) : Type 0 where
  pub rule_there : i < length b.rules
  pub part_there : p < 2
  pub some : 1 ≤ length (slots_at b i p)

module _ (o : Order) (M : Meets) (b : Book) (accepted : Accepted o M b) where
  pub level_there : (r : ℕ) → r < resources b → level b r < o.count
  level_there r h = ltb-true _ _ (every_at (λ l. ltb l o.count) b.levels r 0 accepted.levels h)

  -- what a rule says is there
  record Ruled (i : ℕ) : Type 0 where
    events_there : (r : ℕ) → has (rule_at b i).events r ≡ true → r < resources b
    condition_there : Grounded (resources b) (rule_at b i).condition
    slots_there : (p : ℕ) → All (Slotted (resources b)) (slots_at b i p)

  ruled : (i : ℕ) → i < length b.rules → Ruled i
  ruled i h =
      let rule = rule_at b i in
      let R = resources b in
      let all = every_at (right_rule (devices b) R) b.rules i _ accepted.formed.3.0 h in
      let (_, more) = and_parts (some_under rule.carriers (devices b)) _ all in
      let (events, rest) = and_parts (some_under rule.events R) _ more in
      let (condition, actions) = and_parts _ (right_action _ rule.defaults && right_action _ rule.tasks) rest in
      let (defaults, tasks) = and_parts (right_action _ rule.defaults) _ actions in
      record {
        events_there = λ r. under_has rule.events R r (and_parts _ (under rule.events R) events).1;
        condition_there = grounded _ _ condition;
        slots_there = λ p. cond_both (eqb p 0) rule.defaults rule.tasks (All (Slotted R)) (λ _. slotted _ _ defaults) (λ _. slotted _ _ tasks);
      }

  pub slots_there : (i p : ℕ) → Part b i p → All (Slotted (resources b)) (slots_at b i p)
  slots_there i p h = (ruled i h.rule_there).slots_there p

  pub condition_there : (i p : ℕ) → Part b i p → Grounded (resources b) (rule_at b i).condition
  condition_there i p h = (ruled i h.rule_there).condition_there

  -- a clause stands on a device, and reads what is there
  pub record Clausal (j : ℕ) : Type 0 where
    pub device_there : (clause_at b j).device < devices b
    pub test_there : Grounded (resources b) (clause_at b j).test
    pub test_alone : (r : ℕ) → has (asks 0 (clause_at b j).test) r ≡ true → ⊥

  pub clausal : (j : ℕ) → j < length b.clauses → Clausal j
  clausal j h =
      let parts = and_parts (ltb (clause_at b j).device (devices b)) _ (every_at (right_clause (devices b) (resources b)) b.clauses j _ accepted.formed.3.1 h) in
      let right = (and_parts _ (leb (length (encoded_expression (clause_at b j).test)) 64) parts.1).0 in
      record { device_there = ltb-true _ _ parts.0; test_there = grounded _ _ parts.1; test_alone = λ r. asks_nothing _ _ r refl right }

  -- a flow of the book is allowed
  allowed : (f : Flow) → f.target < resources b → f.source < resources b → (by_rule b f || by_clause b f) ≡ true → o.below (level b f.source) (level b f.target) ≡ true
  unfolding forbidden
  allowed f target source by =
      ⊎_elim
      (λ yes. yes)
      (λ barred. absurd (both_ways _ (accepted.sound f) (and_from _ _ (and_from _ _ (lt-ltb _ _ target) (lt-ltb _ _ source)) (and_from _ _ by (not_from_false _ barred)))))
      (cases_Bool (o.below (level b f.source) (level b f.target)))

  -- by a part
  part_allowed : (i p k t s : ℕ) → Part b i p → 1 ≤ k → k ≤ 4 → t < resources b → s < resources b → has (set_by 0 (slots_at b i p)) t ≡ true → has (sources b (rule_at b i) p k t) s ≡ true → o.below (level b s) (level b t) ≡ true
  part_allowed i p k t s h low high target source set from =
      allowed (flow i p k t s) target source
      (or_left _ (by_clause b (flow i p k t s))
      (and_from _ _ (lt-ltb _ _ h.rule_there) (and_from _ _ (lt-ltb _ _ h.part_there) (and_from _ _ (and_from _ _ (le-leb _ _ low) (le-leb _ _ high)) (and_from _ _ set from)))))

  -- by a clause
  pub clause_allowed : (j t s : ℕ) → j < length b.clauses → has (reads 0 (clause_at b j).test) t ≡ true → has (reads 0 (clause_at b j).test) s ≡ true → o.below (level b s) (level b t) ≡ true
  clause_allowed j t s h ht hs =
      let f = flow (32 + j) 0 5 t s in
      let there = (clausal j h).test_there.own in
      let back : 32 + j - 32 ≡ j = omega arith in
      allowed f (there t ht) (there s hs)
      (or_right (by_rule b f) _
      (and_from _ _ (and_from _ _ (le-leb 32 (32 + j) (omega arith)) (lt-ltb (32 + j) (32 + length b.clauses) (omega arith))) (ap (λ x. clause_flow (clause_at b x) t s) back ∙ and_from _ _ ht hs)))

  -- the meet of m and some levels is at or below each of them
  met_below : (ss : List Slot) (m : ℕ) → m < o.count → All (Slotted (resources b)) ss → (o.below (met M b m ss) m ≡ true) × All (λ x. o.below (met M b m ss) (level b x.target) ≡ true) ss
  unfolding met
  met_below [] m h there = (accepted.lawful.reflexive m h, tt)
  met_below (x ∷ ss) m h there =
      let l = level b x.target in
      let inside = level_there x.target there.0.target_there in
      let left = accepted.meeting.at_left m l h inside in
      let right = accepted.meeting.at_right m l h inside in
      let rest = met_below ss (M.meet m l) (accepted.lawful.left_inside _ m left) there.1 in
      let trans = accepted.lawful.transitive (met M b (M.meet m l) ss) (M.meet m l) in
      (trans m rest.0 left, (trans l rest.0 right, rest.1))

  -- and what is at or below each of them is at or below it
  met_above : (ss : List Slot) (m c : ℕ) → o.below c m ≡ true → All (λ x. o.below c (level b x.target) ≡ true) ss → o.below c (met M b m ss) ≡ true
  unfolding met
  met_above [] m c h all = h
  met_above (x ∷ ss) m c h all = met_above ss _ c (accepted.meeting.greatest m (level b x.target) c h all.0) all.1

  pub level_below : (ss : List Slot) → All (Slotted (resources b)) ss → All (λ x. o.below (level_of M b ss) (level b x.target) ≡ true) ss
  level_below [] there = tt
  level_below (x ∷ ss) there = met_below ss (level b x.target) (level_there x.target there.0.target_there) there.1

  pub level_above : (ss : List Slot) (c : ℕ) → 1 ≤ length ss → All (λ x. o.below c (level b x.target) ≡ true) ss → o.below c (level_of M b ss) ≡ true
  level_above [] c some all = absurd (omega arith)
  level_above (x ∷ ss) c some all = met_above ss (level b x.target) c all.0 all.1

  -- a lane is at or below each target of its parts
  pub lane_below : (i p : ℕ) → Part b i p → All (λ x. o.below (lane_of M b i p) (level b x.target) ≡ true) (slots_at b i p)
  lane_below i p h = level_below (slots_at b i p) (slots_there i p h)

  -- a source of every target of a part is at or below its lane
  source_below : (i p k s : ℕ) → Part b i p → 1 ≤ k → k ≤ 4 → s < resources b → ((t : ℕ) → has (sources b (rule_at b i) p k t) s ≡ true) → o.below (level b s) (lane_of M b i p) ≡ true
  source_below i p k s h low high there from =
      let ss = slots_at b i p in
      level_above ss (level b s) h.some
      (all_with (Slotted (resources b)) (λ x. has (set_by 0 ss) x.target ≡ true) _ ss
      (λ x slot set. part_allowed i p k x.target s h low high slot.target_there there set (from x.target))
      (slots_there i p h) (set_all ss))

  pub event_below : (i p s : ℕ) → Part b i p → has (rule_at b i).events s ≡ true → o.below (level b s) (lane_of M b i p) ≡ true
  event_below i p s h event =
      source_below i p 1 s h (omega arith) (omega arith) ((ruled i h.rule_there).events_there s event) (λ t. event)

  pub condition_below : (i s : ℕ) → Part b i 1 → s < resources b → has (both_reads 0 (rule_at b i).condition) s ≡ true → o.below (level b s) (lane_of M b i 1) ≡ true
  condition_below i s h there read = source_below i 1 2 s h (omega arith) (omega arith) there (λ t. read)

  -- a clause that a part can make false
  pub clause_below : (i p j s : ℕ) → Part b i p → j < length b.clauses → watches b (rule_at b i) p (clause_at b j) ≡ true → has (reads 0 (clause_at b j).test) s ≡ true → o.below (level b s) (lane_of M b i p) ≡ true
  clause_below i p j s h inside watch read =
      source_below i p 4 s h (omega arith) (omega arith) ((clausal j inside).test_there.own s read)
      (λ t. All-get_or (λ x. (m r : ℕ) → watches b (rule_at b i) p x ≡ true → has (reads 0 x.test) r ≡ true → has (watched b (rule_at b i) p m b.clauses) r ≡ true) b.clauses j _ inside (watched_onto b (rule_at b i) p b.clauses) 0 s watch read)

  -- what the expression for a target reads is at or below the target
  pub value_below : (i p : ℕ) → Part b i p → All (λ x. (s : ℕ) → s < resources b → ((n : ℕ) → has (both_reads n x.value) s ≡ true) → o.below (level b s) (level b x.target) ≡ true) (slots_at b i p)
  value_below i p h =
      let ss = slots_at b i p in
      let Read : Slot → Type 0 = λ x. (m r : ℕ) → ((n : ℕ) → has (both_reads n x.value) r ≡ true) → has (read_for x.target m ss) r ≡ true in
      let Set : Slot → Type 0 = λ x. has (set_by 0 ss) x.target ≡ true in
      all_with (Slotted (resources b)) (λ x. Set x × Read x) _ ss
      (λ x slot (set, read) s there from. part_allowed i p 3 x.target s h (omega arith) (omega arith) slot.target_there there set (read 0 s from))
      (slots_there i p h)
      (all_with Set Read _ ss (λ x set read. (set, read)) (set_all ss) (read_onto ss))
