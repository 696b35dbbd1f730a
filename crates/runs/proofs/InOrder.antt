-- Lanes are lines: a call takes from the front of a lane exactly as many as its answer counts, and adds at its end. Two stretches of a
-- run, one after the other, are one. Assumes nothing.
use Rattle.std.proofs.Common.{◌≡◌, ℕ, zero, suc, ◌+◌, ◌-◌, ◌≤◌, Bool, true, false, cond, eqb, List, [], ◌∷◌, ◌++◌, length, get_or, drop, Ok, Err, sym, refl, ap, ◌∙◌, subst, add-zero, arith}
use Rattle.std.proofs.lemmas.List.{append-nil, append_assoc, length-append, length-drop, drop-append-le, drop-drop, get_or-drop}
use Rattle.std.proofs.lemmas.Bool.{cond_both, eqb-true}
use Rattle.fault.specs.declared.fault.Fault.{Fault}
use Rattle.meaning.specs.Book.{Book}
use Rattle.meaning.specs.Levels.{Order, Meets}
use Rattle.meaning.specs.Reading.{Verdict}
use Rattle.runs.specs.Call.{Call, Input, Take, Apply, Cancel, PutBack, Serve, Waiting, Report}
use Rattle.runs.specs.Discovery.{settled, arrived}
use Rattle.runs.specs.Lane.{served, marked}
use Rattle.runs.specs.Promises.{Accepted, Served, counted, gone, ran, arrivals, departures, ServiceInOrder}
use Rattle.runs.specs.State.{State, Turn, still, discovered, carried_out, head, removed, turn, blocked, idle, one_more, serving}
use Rattle.runs.specs.Step.{Outcome, answered, level_checked, cells_checked, with_mark, input_checked, take_checked, spend_checked, serve_checked, report_checked, fate, applied, step}
use Rattle.runs.specs.Update.{Update}
use Rattle.runs.proofs.Good.{Good, by_verdict, by_waiting, out_by, turn_good, step_good, started_good, ran_good}

-- the lane before, what came, the lane after, and how many went
record Lined (before came after : List Update) (q : ℕ) : Type 0 where
  line : after ≡ drop q (before ++ came)
  enough : q ≤ length (before ++ came)

-- nothing went
grown : (before came : List Update) → Lined before came (before ++ came) 0
grown before came = record { line = refl; enough = omega arith }

-- nothing happened
same_line : (before : List Update) → Lined before [] before 0
same_line before = record { line = sym (append-nil before); enough = omega arith }

-- the head went, and then some came
shifted : (before came : List Update) → 1 ≤ length before → Lined before came (drop 1 before ++ came) 1
shifted before came some =
    record { line = sym (drop-append-le 1 before came some); enough = omega (arith, length-append before came) }

-- one stretch after another
lined_then : (w c w₁ c₁ w₂ : List Update) (q q₁ : ℕ) → Lined w c w₁ q → Lined w₁ c₁ w₂ q₁ → Lined w (c ++ c₁) w₂ (q + q₁)
lined_then w c w₁ c₁ w₂ q q₁ one two =
    let long : length w₁ ≡ length (w ++ c) - q = ap length one.line ∙ length-drop q (w ++ c) in
    let joined = append_assoc w c c₁ in
    record {
      line = two.line ∙ ap (λ xs. drop q₁ (xs ++ c₁)) one.line ∙ ap (drop q₁) (sym (drop-append-le q (w ++ c) c₁ one.enough)) ∙ drop-drop q₁ q ((w ++ c) ++ c₁) ∙ ap (drop (q + q₁)) joined;
      enough = omega (arith, one.enough, two.enough, long, length-append w₁ c₁, length-append (w ++ c) c₁, ap length joined);
    }

-- in the words of the promise
served_by : (before came after : List Update) (q : ℕ) → Lined before came after q → Served before came after q
served_by before came after q h =
    record {
      line = h.line;
      enough = h.enough;
      places = λ p u low. let back : q + (p - q) ≡ p = omega arith in ap (λ xs. get_or xs (p - q) u) h.line ∙ get_or-drop q (before ++ came) (p - q) u ∙ ap (λ k. get_or (before ++ came) k u) back;
      no_more = ap length h.line ∙ length-drop q (before ++ came);
    }

-- counts by lane
none_either : (t : Bool) → cond {A = ℕ} t 0 0 ≡ 0
none_either true = refl
none_either false = refl

one_and : (t : Bool) (n : ℕ) → cond t 1 0 + cond t n 0 ≡ cond t (1 + n) 0
one_and true n = refl
one_and false n = refl

one_fate : (t : Bool) (u : Update) → counted (fate t u) ≡ 1
one_fate true u = refl
one_fate false u = refl

module _ (o : Order) (M : Meets) (b : Book) (m : ℕ) where
  -- nothing went from the lane n, whichever it is
  stays : (n : ℕ) (s : State) → Lined (s.lanes m).waiting [] (s.lanes m).waiting (cond (eqb m n) 0 0)
  stays n s =
      subst (Lined (s.lanes m).waiting [] (s.lanes m).waiting) (sym (none_either (eqb m n))) (same_line (s.lanes m).waiting)

  -- the lane m over a turn, a service, and a call
  abbrev TurnLined : State → Turn → ℕ → Type 0
  TurnLined s t q = Lined (s.lanes m).waiting (t.came m) (t.after.lanes m).waiting q

  discovered_lined : (d changed : ℕ) (s : State) → TurnLined s (discovered M b d changed s) 0
  unfolding discovered settled arrived
  discovered_lined d changed s = grown (s.lanes m).waiting _

  carried_lined : (u : Update) (s : State) → TurnLined s (carried_out M b u s) 0
  unfolding carried_out
  carried_lined u s =
      cond_both (blocked b s.table u) (still s) _ (λ t. TurnLined s t 0) (λ _. same_line (s.lanes m).waiting) (λ _. discovered_lined u.device _ _)

  -- the head of the lane n removed
  removed_lined : (n : ℕ) (s : State) → 1 ≤ length (s.lanes n).waiting → Lined (s.lanes m).waiting [] ((removed s n).lanes m).waiting (cond (eqb m n) 1 0)
  removed_lined n s some = by_lane (eqb m n) refl
    where
      by_lane : (t : Bool) → eqb m n ≡ t → Lined (s.lanes m).waiting [] (cond t (served (s.lanes n)) (s.lanes m)).waiting (cond t 1 0)
      by_lane true here =
          let l = λ (k : ℕ). (s.lanes k).waiting in
          let same = eqb-true m n here in
          subst (λ xs. Lined (l m) [] xs 1) (append-nil (drop 1 (l m)) ∙ ap (λ k. drop 1 (l k)) same) (shifted (l m) [] (subst (λ k. 1 ≤ length (l k)) (sym same) some))
      by_lane false here = same_line (s.lanes m).waiting

  turn_lined : (n : ℕ) (s : State) → 1 ≤ length (s.lanes n).waiting → TurnLined s (turn M b n s) (cond (eqb m n) 1 0)
  turn_lined n s some =
      let two = lined_then _ _ _ _ _ _ _ (removed_lined n s some) (carried_lined (head s n) (removed s n)) in
      subst (λ q. TurnLined s (turn M b n s) q) (add-zero (cond (eqb m n) 1 0)) two

  module _ (accepted : Accepted o M b) where
    serving_lined : (n most : ℕ) (s : State) → Good M b s → Lined (s.lanes m).waiting ((serving M b n most s).came m) ((serving M b n most s).after.lanes m).waiting (cond (eqb m n) (serving M b n most s).count 0)
    unfolding serving
    serving_lined n zero s good = stays n s
    serving_lined n (suc k) s good =
        by_waiting (λ t. Lined (s.lanes m).waiting (t.came m) (t.after.lanes m).waiting (cond (eqb m n) t.count 0)) (s.lanes n).waiting (idle s) (one_more (turn M b n s) (serving M b n k (turn M b n s).after))
        (λ _. stays n s)
        (λ some.
        let s₁ = (turn M b n s).after in
        let rest = serving M b n k s₁ in
        subst (λ q. Lined (s.lanes m).waiting ((turn M b n s).came m ++ rest.came m) (rest.after.lanes m).waiting q) (one_and (eqb m n) rest.count)
        (lined_then _ _ _ _ _ _ _ (turn_lined n s some) (serving_lined n k s₁ (turn_good o M b accepted n s some good))))

    -- the lane m over a call
    abbrev StepLined : Call → State → Outcome → Type 0
    StepLined c s out = Lined (s.lanes m).waiting (out.came m) (out.after.lanes m).waiting (gone m c out.answer)

    refused_lined : (c : Call) (s : State) (f : Fault) → StepLined c s (answered s (Err f))
    refused_lined (Input d r v) s f = same_line (s.lanes m).waiting
    refused_lined (Take n) s f = same_line (s.lanes m).waiting
    refused_lined (Apply n run) s f = stays n s
    refused_lined (Cancel n run) s f = stays n s
    refused_lined (PutBack n run) s f = same_line (s.lanes m).waiting
    refused_lined (Serve n most) s f = stays n s
    refused_lined (Waiting k) s f = same_line (s.lanes m).waiting
    refused_lined (Report k size) s f = same_line (s.lanes m).waiting

    -- a mark moves nothing
    mark_lined : (t : Bool) (n : ℕ) (s : State) → Lined (s.lanes m).waiting [] ((with_mark t s n).lanes m).waiting 0
    mark_lined t n s =
        cond_both (eqb m n) (marked t (s.lanes n)) (s.lanes m) (λ l. Lined (s.lanes m).waiting [] l.waiting 0)
        (λ here. subst (λ k. Lined (s.lanes m).waiting [] (s.lanes k).waiting 0) (eqb-true m n here) (same_line (s.lanes m).waiting))
        (λ _. same_line (s.lanes m).waiting)

    applied_lined : (n run : ℕ) (s : State) (v : Verdict) → 1 ≤ length (s.lanes n).waiting → StepLined (Apply n run) s (applied M b n s v)
    applied_lined n run s (Ok x) some =
        let t = turn M b n s in
        subst (λ k. Lined (s.lanes m).waiting (t.came m) (t.after.lanes m).waiting (cond (eqb m n) k 0)) (sym (one_fate (blocked b s.table (head s n)) (head s n))) (turn_lined n s some)
    applied_lined n run s (Err f) some =
        subst (λ q. Lined (s.lanes m).waiting [] ((with_mark false s n).lanes m).waiting q) (sym (none_either (eqb m n))) (mark_lined false n s)

    step_lined : (c : Call) (s : State) → Good M b s → StepLined c s (step o M b c s)
    step_lined (Input d r v) s good =
        by_verdict (StepLined (Input d r v) s) (input_checked b d r v s) s _ (λ _. discovered_lined d _ _) (λ f _. refused_lined (Input d r v) s f)
    step_lined (Take n) s good =
        by_verdict (StepLined (Take n) s) (take_checked o n s) s _ (λ _. mark_lined true n s) (λ f _. refused_lined (Take n) s f)
    step_lined (Apply n run) s good =
        by_verdict (StepLined (Apply n run) s) (spend_checked o n run s) s _ (λ e. applied_lined n run s (cells_checked b s.table) ((good.lanes n).ticketed (out_by o M b n run s e))) (λ f _. refused_lined (Apply n run) s f)
    step_lined (Cancel n run) s good =
        by_verdict (StepLined (Cancel n run) s) (spend_checked o n run s) s _ (λ e. removed_lined n s ((good.lanes n).ticketed (out_by o M b n run s e))) (λ f _. refused_lined (Cancel n run) s f)
    step_lined (PutBack n run) s good =
        by_verdict (StepLined (PutBack n run) s) (spend_checked o n run s) s _ (λ _. mark_lined false n s) (λ f _. refused_lined (PutBack n run) s f)
    step_lined (Serve n most) s good =
        by_verdict (StepLined (Serve n most) s) (serve_checked o b n most s) s _ (λ _. serving_lined n most s good) (λ f _. refused_lined (Serve n most) s f)
    step_lined (Waiting k) s good =
        by_verdict (StepLined (Waiting k) s) (level_checked o k) s _ (λ _. same_line (s.lanes m).waiting) (λ f _. refused_lined (Waiting k) s f)
    step_lined (Report k size) s good =
        by_verdict (StepLined (Report k size) s) (report_checked o b k size s) s _ (λ _. same_line (s.lanes m).waiting) (λ f _. refused_lined (Report k size) s f)

    ran_lined : (cs : List Call) (s : State) → Good M b s → Lined (s.lanes m).waiting (arrivals o M b m cs s) ((ran o M b cs s).lanes m).waiting (departures o M b m cs s)
    unfolding ran arrivals departures
    ran_lined [] s good = same_line (s.lanes m).waiting
    ran_lined (c ∷ cs) s good =
        lined_then _ _ _ _ _ _ _ (step_lined c s good) (ran_lined cs (step o M b c s).after (step_good o M b accepted c s good))

-- the promise
pub in_order : (o : Order) (M : Meets) (b : Book) → Accepted o M b → ServiceInOrder o M b
in_order o M b accepted s cs ds m start =
    served_by _ _ _ _ (ran_lined o M b m accepted ds (ran o M b cs s) (ran_good o M b accepted cs s (started_good o M b s start)))
