-- Every state that a run reaches is good: the host has the book's cells, every clause holds, and each lane is orderly. A call alters
-- cells only by writes, which keep which cells there are, and only where no clause fails. Assumes nothing.
use Rattle.std.proofs.Common.{◌≡◌, ℕ, zero, suc, ◌^◌, ◌<◌, ◌≤◌, Bool, true, false, ◌&&◌, eqb, ltb, leb, List, [], ◌∷◌, length, ℤ, is_some, Some, None, Ok, Err, Option, sym, refl, ◌∙◌, subst, arith}
use Rattle.std.specs.List.{AllByRecursion as All}
use Rattle.std.proofs.ByRecursion.{All-get_or}
use Rattle.std.proofs.lemmas.Bool.{and_parts, ltb-true, leb-true, cond_both, both_ways}
use Rattle.fault.specs.declared.fault.Fault.{Fault}
use Rattle.meaning.specs.Book.{Book, devices, resources, cells_of}
use Rattle.meaning.specs.Levels.{Order, Meets}
use Rattle.meaning.specs.Reading.{Verdict}
use Rattle.meaning.specs.Sets.{has}
use Rattle.meaning.proofs.Rows.{passed, both}
use Rattle.runs.specs.Call.{Call, Input, Take, Apply, Cancel, PutBack, Serve, Waiting, Report}
use Rattle.runs.specs.Clauses.{all_hold, concerns, failing}
use Rattle.runs.specs.Lane.{Lane, served, marked, with_lane}
use Rattle.runs.specs.Promises.{Accepted, ran}
use Rattle.runs.specs.State.{State, Service, with_table, with_lanes, discovered, blocked, carried_out, head, removed, turn, idle, one_more, serving, still}
use Rattle.runs.specs.Step.{Outcome, answered, unless_refused, level_checked, cells_checked, none_failing, untaken, with_mark, input_checked, take_checked, spend_checked, serve_checked, report_checked, applied, step}
use Rattle.runs.specs.Table.{write, written}
use Rattle.runs.specs.declared.write.Write.{Write}
use Rattle.runs.specs.Update.{Update, no_update, slots_at, writes, targets}
use Rattle.runs.specs.View.{Hosts, Started}
use Rattle.runs.proofs.Holding.{all_hold_after}
use Rattle.runs.proofs.Members.{has_itself}
use Rattle.runs.proofs.Orderly.{Proper, Fit, Orderly, with_lane_both, settled_orderly, served_orderly, marked_orderly}
use Rattle.runs.proofs.Sources.{set_all}
use Rattle.runs.proofs.Tables.{written_there, assigned_all}

-- an outcome by its verdict
pub by_verdict : (P : Outcome → Type 0) (v : Verdict) (s : State) (next : Outcome) → (v ≡ Ok tt → P next) → ((f : Fault) → v ≡ Err f → P (answered s (Err f))) → P (unless_refused v s next)
by_verdict P (Ok x) s next passes refused = passes refl
by_verdict P (Err f) s next passes refused = refused f refl

-- a service by whether something waits
pub by_waiting : (P : Service → Type 0) (us : List Update) (x y : Service) → (us ≡ [] → P x) → (1 ≤ length us → P y) → P (elim us [ [] ↦ x | u ∷ rest ↦ y ])
by_waiting P [] x y none some = none refl
by_waiting P (u ∷ us) x y none some = some (omega arith)

no_fault : (fault : ℕ → Fault) (found : Option ℕ) → none_failing fault found ≡ Ok tt → found ≡ None
no_fault fault None e = refl
no_fault fault (Some j) e = absurd (let z : ◌≡◌ {A = ℕ} 0 1 = cc in omega arith)

nothing : (found : Option ℕ) → is_some found ≡ false → found ≡ None
nothing None e = refl
nothing (Some j) e = absurd (both_ways _ e refl)

pub record Good (M : Meets) (b : Book) (s : State) : Type 0 where
  pub hosts : Hosts b s.table
  pub holds : all_hold b s.table ≡ true
  pub lanes : (m : ℕ) → Orderly M b m (s.lanes m)

-- what an input that is not refused has passed
pub record Posted (b : Book) (d r : ℕ) (v : ℤ) (s : State) : Type 0 where
  pub device_there : d < devices b
  pub resource_there : r < resources b
  pub keeps : failing b (write s.table d r v) (concerns d (2 ^ r)) ≡ None

module _ (o : Order) (M : Meets) (b : Book) where
  pub posted : (d r : ℕ) (v : ℤ) (s : State) → input_checked b d r v s ≡ Ok tt → Posted b d r v s
  unfolding input_checked
  posted d r v s e =
      let (low, one) = passed (ltb d (devices b)) _ _ tt e in
      let (under, two) = passed (ltb r (resources b)) _ _ tt one in
      let (_, _, three) = both (cells_checked b s.table) _ tt two in
      let (_, four) = passed (has (cells_of b d) r) _ _ tt three in
      record { device_there = ltb-true _ _ low; resource_there = ltb-true _ _ under; keeps = no_fault _ _ four }

  -- a ticket that counts is out
  pub out_by : (m run : ℕ) (s : State) → spend_checked o m run s ≡ Ok tt → (s.lanes m).out ≡ true
  unfolding spend_checked
  out_by m run s e =
      let (_, _, ticket) = both (level_checked o m) _ tt e in
      (and_parts (eqb run s.run) (s.lanes m).out (passed (eqb run s.run && (s.lanes m).out) _ _ tt ticket).0).1

  pub some_by : (m : ℕ) (s : State) → take_checked o m s ≡ Ok tt → 1 ≤ length (s.lanes m).waiting
  unfolding take_checked
  some_by m s e =
      let (_, _, one) = both (level_checked o m) _ tt e in
      let (_, _, two) = both (untaken s m) _ tt one in
      leb-true _ _ (passed (leb 1 (length (s.lanes m).waiting)) _ _ tt two).0

  pub started_good : (s : State) → Started b s → Good M b s
  started_good s start =
      record {
        hosts = start.hosts;
        holds = start.holds;
        lanes = λ m. subst (Orderly M b m) (sym (start.empty m)) (record { fit = tt; few_lost = omega arith; ticketed = λ out. absurd (both_ways _ refl out) });
      }

  discovered_good : (d changed : ℕ) (s : State) → d < devices b → Good M b s → Good M b (discovered M b d changed s).after
  unfolding discovered
  discovered_good d changed s there good =
      record { hosts = good.hosts; holds = good.holds; lanes = settled_orderly M b d there s.table changed s.lanes good.lanes }

  lane_good : (m : ℕ) (l : Lane Update) (s : State) → Orderly M b m l → Good M b s → Good M b (with_lanes s (with_lane s.lanes m l))
  lane_good m l s fine good =
      record { hosts = good.hosts; holds = good.holds; lanes = with_lane_both (Orderly M b) s.lanes m l fine good.lanes }

  pub removed_good : (m : ℕ) (s : State) → Good M b s → Good M b (removed s m)
  removed_good m s good = lane_good m (served (s.lanes m)) s (served_orderly M b m (s.lanes m) (good.lanes m)) good

  mark_good : (t : Bool) (m : ℕ) (s : State) → (t ≡ true → 1 ≤ length (s.lanes m).waiting) → Good M b s → Good M b (with_mark t s m)
  mark_good t m s some good = lane_good m (marked t (s.lanes m)) s (marked_orderly M b t m (s.lanes m) some (good.lanes m)) good

  -- the head of a lane fits it
  pub head_fits : (m : ℕ) (s : State) → 1 ≤ length (s.lanes m).waiting → Good M b s → Fit M b m (head s m)
  head_fits m s some good = All-get_or (Fit M b m) (s.lanes m).waiting 0 no_update some (good.lanes m).fit

  -- the targets of an update are what it writes
  pub writes_among : (u : Update) → All (λ w. has (targets b u) w.target ≡ true) (writes b u)
  writes_among u =
      assigned_all (λ t. has (targets b u) t ≡ true) (slots_at b u.rule u.part) u.values (set_all (slots_at b u.rule u.part))

  module _ (accepted : Accepted o M b) where
    written_good : (d m : ℕ) (ws : List Write) (s : State) → All (λ w. has m w.target ≡ true) ws → failing b (written s.table d ws) (concerns d m) ≡ None → Good M b s → Good M b (with_table s (written s.table d ws))
    written_good d m ws s among keeps good =
        record {
          hosts = λ e r he hr. written_there s.table d ws e r ∙ good.hosts e r he hr;
          holds = all_hold_after o M b accepted s.table d ws m among good.holds keeps;
          lanes = good.lanes;
        }

    input_good : (d r : ℕ) (v : ℤ) (s : State) → Posted b d r v s → Good M b s → Good M b (discovered M b d (2 ^ r) (with_table s (write s.table d r v))).after
    unfolding written
    input_good d r v s h good =
        discovered_good d (2 ^ r) _ h.device_there (written_good d (2 ^ r) (record { target = r; value = v } ∷ []) s (has_itself r, tt) h.keeps good)

    pub carried_good : (u : Update) (s : State) → Proper b u.rule u.part u.device → Good M b s → Good M b (carried_out M b u s).after
    unfolding carried_out
    carried_good u s proper good =
        cond_both (blocked b s.table u) (still s) (discovered M b u.device _ _) (λ t. Good M b t.after)
        (λ _. good)
        (λ free. discovered_good u.device _ _ proper.device_there (written_good u.device (targets b u) (writes b u) s (writes_among u) (nothing _ free) good))

    pub turn_good : (m : ℕ) (s : State) → 1 ≤ length (s.lanes m).waiting → Good M b s → Good M b (turn M b m s).after
    turn_good m s some good = carried_good (head s m) (removed s m) (head_fits m s some good).proper (removed_good m s good)

    serving_good : (m n : ℕ) (s : State) → Good M b s → Good M b (serving M b m n s).after
    unfolding serving
    serving_good m zero s good = good
    serving_good m (suc n) s good =
        by_waiting (λ t. Good M b t.after) (s.lanes m).waiting (idle s) (one_more (turn M b m s) (serving M b m n (turn M b m s).after))
        (λ _. good)
        (λ some. serving_good m n (turn M b m s).after (turn_good m s some good))

    applied_good : (m : ℕ) (s : State) (v : Verdict) → 1 ≤ length (s.lanes m).waiting → Good M b s → Good M b (applied M b m s v).after
    applied_good m s (Ok x) some good = turn_good m s some good
    applied_good m s (Err f) some good = mark_good false m s (λ e. absurd (both_ways _ refl e)) good

    -- a call keeps it
    pub step_good : (c : Call) (s : State) → Good M b s → Good M b (step o M b c s).after
    step_good (Input d r v) s good =
        by_verdict (λ t. Good M b t.after) (input_checked b d r v s) s _ (λ e. input_good d r v s (posted d r v s e) good) (λ _ _. good)
    step_good (Take m) s good =
        by_verdict (λ t. Good M b t.after) (take_checked o m s) s _ (λ e. mark_good true m s (λ _. some_by m s e) good) (λ _ _. good)
    step_good (Apply m run) s good =
        by_verdict (λ t. Good M b t.after) (spend_checked o m run s) s _ (λ e. applied_good m s (cells_checked b s.table) ((good.lanes m).ticketed (out_by m run s e)) good) (λ _ _. good)
    step_good (Cancel m run) s good =
        by_verdict (λ t. Good M b t.after) (spend_checked o m run s) s _ (λ e. removed_good m s good) (λ _ _. good)
    step_good (PutBack m run) s good =
        by_verdict (λ t. Good M b t.after) (spend_checked o m run s) s _ (λ e. mark_good false m s (λ f. absurd (both_ways _ refl f)) good) (λ _ _. good)
    step_good (Serve m n) s good =
        by_verdict (λ t. Good M b t.after) (serve_checked o b m n s) s _ (λ e. serving_good m n s good) (λ _ _. good)
    step_good (Waiting k) s good = by_verdict (λ t. Good M b t.after) (level_checked o k) s _ (λ _. good) (λ _ _. good)
    step_good (Report k size) s good =
        by_verdict (λ t. Good M b t.after) (report_checked o b k size s) s _ (λ _. good) (λ _ _. good)

    pub ran_good : (cs : List Call) (s : State) → Good M b s → Good M b (ran o M b cs s)
    unfolding ran
    ran_good [] s good = good
    ran_good (c ∷ cs) s good = ran_good cs (step o M b c s).after (step_good c s good)
