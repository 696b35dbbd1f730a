-- Isolation. A call beyond k leaves what k sees; a call within k, from two states that look the same, is answered alike and leaves
-- them so. So running a list looks like running its calls within k alone. Assumes nothing.
use Rattle.std.proofs.Common.{◌≡◌, ℕ, zero, suc, ◌+◌, ◌^◌, ◌<◌, ◌≤◌, Bool, true, false, cond, not, ◌&&◌, eqb, ltb, leb, List, [], ◌∷◌, ◌++◌, length, ℤ, is_some, Ok, Err, codes, decimal, sum, filter, sym, refl, ap, ◌∙◌, subst, ap₂, ⊎_elim, arith}
use Rattle.std.specs.List.{range_with_len, AllByRecursion as All}
use Rattle.std.proofs.ByRecursion.{All-weaker, all_kept_by, kept_by_passes}
use Rattle.std.proofs.lemmas.Bool.{and_parts, and_from, cases_Bool, both_ways, lt-ltb, cond-true, cond-false}
use Rattle.fault.specs.declared.fault.Fault.{Fault}
use Rattle.meaning.specs.Book.{Book, devices, resources, cells_of}
use Rattle.meaning.specs.Checks.{require, bind, through}
use Rattle.meaning.specs.Expression.{reads}
use Rattle.meaning.specs.Flow.{level}
use Rattle.meaning.specs.Levels.{Order, Meets}
use Rattle.meaning.specs.Reading.{Verdict}
use Rattle.meaning.specs.Sets.{has}
use Rattle.runs.specs.Call.{Call, Input, Take, Apply, Cancel, PutBack, Serve, Waiting, Report, Ticket, Count, Text, Done}
use Rattle.runs.specs.Clauses.{concerns, clause_at}
use Rattle.runs.specs.Faults.{bad_argument, other_cells, absent_cell, false_by_input, empty_lane, ticket_out, bad_ticket}
use Rattle.runs.specs.Lane.{marked}
use Rattle.runs.specs.Promises.{Accepted, ran, told, Isolation}
use Rattle.runs.specs.Report.{lanes_below, waiting_below, resources_below, line, cell_line, device_lines, lane_line, reported}
use Rattle.runs.specs.State.{State, with_table, discovered, blocked, head, removed}
use Rattle.runs.specs.Step.{Outcome, answered, unless_refused, most_served, level_checked, cell_checked, device_checked, cells_checked, none_failing, untaken, fits, with_mark, input_checked, take_checked, spend_checked, serve_checked, report_checked, fate, applied, step}
use Rattle.runs.specs.Table.{Table, write}
use Rattle.runs.specs.View.{within_level, Hosts}
use Rattle.runs.proofs.Alike.{low, Same, same_refl, same_sym, same_trans, table_same, lane_same, lane_beyond, out_same, lost_same, long_same, joined_same, map_same}
use Rattle.runs.proofs.Carrying.{failing_same, Carried, turned, serving_same, removed_same, removed_beyond, turn_beyond, serving_beyond}
use Rattle.runs.proofs.Discovering.{discovered_same, discovered_beyond}
use Rattle.runs.proofs.Downward.{clause_allowed}
use Rattle.runs.proofs.Each.{all_with, all_counting}
use Rattle.runs.proofs.Good.{Good, by_verdict, Posted, posted, out_by, started_good, step_good}
use Rattle.runs.proofs.Members.{only_itself, shared}
use Rattle.runs.proofs.Tables.{write_agree, write_other}

-- two outcomes by one verdict
by_verdicts : (P : Outcome → Outcome → Type 0) (v w : Verdict) (s t : State) (x y : Outcome) → v ≡ w → (v ≡ Ok tt → P x y) → ((f : Fault) → P (answered s (Err f)) (answered t (Err f))) → P (unless_refused v s x) (unless_refused w t y)
by_verdicts P v w s t x y same passes refused =
    subst (λ u. P (unless_refused v s x) (unless_refused u t y)) same (either v passes)
  where
    either : (u : Verdict) → (u ≡ Ok tt → P x y) → P (unless_refused u s x) (unless_refused u t y)
    either (Ok _) go = go refl
    either (Err f) go = refused f

-- what comes after a test counts only where the test passes
require_same : (c : Bool) (f : Fault) (x y : Verdict) → (c ≡ true → x ≡ y) → require c f x ≡ require c f y
require_same true f x y same = same refl
require_same false f x y same = refl

-- checks that all pass
through_passes : (f : ℕ → Unit {0} → Verdict) (n i : ℕ) → ((j : ℕ) → j < i + n → f j tt ≡ Ok tt) → through f n i tt ≡ Ok tt
through_passes f zero i each = refl
through_passes f (suc n) i each =
    ap (λ v. bind v (λ t. through f n (i + 1) t)) (each i (omega arith)) ∙ through_passes f n (i + 1) (λ j lt. each j (omega arith))

-- a host of the book passes the comparison of cells
pub hosts_checked : (b : Book) (T : Table) → Hosts b T → cells_checked b T ≡ Ok tt
unfolding cells_checked
hosts_checked b T hosts =
    through_passes (device_checked b T) (devices b) 0 (λ d hd.
    through_passes (cell_checked b T d) (resources b) 0 (λ r hr.
    ap (λ c. require c (other_cells d r) (Ok tt)) (matches (has (cells_of b d) r) (is_some (T d r)) (hosts d r (omega arith) (omega arith)))))
  where
    matches : (t c : Bool) → c ≡ t → cond t c (not c) ≡ true
    matches true c e = e
    matches false c e = ap not e

module _ (o : Order) (M : Meets) (b : Book) (accepted : Accepted o M b) (k : ℕ) where
  -- an input to a resource at or below k: a clause that reads it reads only resources of its level
  concerned_low : (d r : ℕ) → low o b k r ≡ true → (j : ℕ) → j < length b.clauses → concerns d (2 ^ r) (clause_at b j) ≡ true → (s : ℕ) → has (reads 0 (clause_at b j).test) s ≡ true → low o b k s ≡ true
  concerned_low d r below j h it s read =
      let (t, reads_t, is_r) = shared _ (2 ^ r) (and_parts (eqb (clause_at b j).device d) _ it).1 in
      let reads_r = subst (λ x. has (reads 0 (clause_at b j).test) x ≡ true) (sym (only_itself r t is_r)) reads_t in
      accepted.lawful.transitive (level b s) (level b r) k (clause_allowed o M b accepted j r s h reads_r read) below

  -- what a call within k finds is the same in two states that look the same
  module _ (s t : State) (good : Good M b s) (good' : Good M b t) (h : Same o b k s t) where
    hosted : cells_checked b s.table ≡ cells_checked b t.table
    hosted = hosts_checked b s.table good.hosts ∙ sym (hosts_checked b t.table good'.hosts)

    input_verdict : (d r : ℕ) (v : ℤ) → low o b k r ≡ true → input_checked b d r v s ≡ input_checked b d r v t
    unfolding input_checked
    input_verdict d r v below =
        require_same (ltb d (devices b)) _ _ _ (λ hd.
        require_same (ltb r (resources b)) _ _ _ (λ hr.
        ap₂ (λ c f. bind c (λ _. require (has (cells_of b d) r) (absent_cell d r) (none_failing (λ j. false_by_input j d) f))) hosted
        (failing_same o M b accepted k _ _ d (2 ^ r) (write_agree b (low o b k) s.table t.table d r v h.cells) (concerned_low d r below))))

    untaken_same : (m : ℕ) → o.below m k ≡ true → untaken s m ≡ untaken t m
    untaken_same m below = ap (λ out. require (not out) (ticket_out m) (Ok tt)) (out_same o b k s t h m below)

    take_verdict : (m : ℕ) → o.below m k ≡ true → take_checked o m s ≡ take_checked o m t
    unfolding take_checked
    take_verdict m below =
        ap₂ (λ u n. bind (level_checked o m) (λ _. bind u (λ _. require (leb 1 n) (empty_lane m) (Ok tt)))) (untaken_same m below) (long_same o b k s t h m below)

    spend_verdict : (m run : ℕ) → o.below m k ≡ true → spend_checked o m run s ≡ spend_checked o m run t
    unfolding spend_checked
    spend_verdict m run below =
        ap₂ (λ n out. bind (level_checked o m) (λ _. require (eqb run n && out) (bad_ticket m run) (Ok tt))) h.runs (out_same o b k s t h m below)

    serve_verdict : (m n : ℕ) → o.below m k ≡ true → serve_checked o b m n s ≡ serve_checked o b m n t
    unfolding serve_checked
    serve_verdict m n below =
        ap₂ (λ c u. bind (level_checked o m) (λ _. require (leb 1 n && leb n most_served) (bad_argument 4 n) (bind c (λ _. u)))) hosted (untaken_same m below)

    module _ (l : ℕ) (at : o.below l k ≡ true) where
      lanes_low : All (λ m. o.below m k ≡ true) (lanes_below o l)
      lanes_low =
          All-weaker (λ m. o.below m l ≡ true) _ (λ m below. accepted.lawful.transitive m l k below at) _ (kept_by_passes (λ m. o.below m l) (range_with_len 0 o.count))

      waiting_same : waiting_below o l s ≡ waiting_below o l t
      unfolding waiting_below
      waiting_same =
          ap sum (map_same _ _ (lanes_below o l) (All-weaker (λ m. o.below m k ≡ true) _ (λ m below. long_same o b k s t h m below) _ lanes_low))

      device_same : (d : ℕ) → d < devices b → device_lines o b l s d ≡ device_lines o b l t d
      device_same d hd =
          let test : ℕ → Bool = λ r. o.below (level b r) l in
          joined_same _ _ (resources_below o b l)
          (all_with (λ r. r < resources b) (λ r. test r ≡ true) _ (resources_below o b l)
          (λ r hr below. ap (cell_line d r) (h.cells d r hd hr (accepted.lawful.transitive (level b r) l k below at)))
          (all_kept_by test (λ r. r < resources b) (range_with_len 0 (resources b)) (all_counting (λ r. r < resources b) 0 (resources b) (λ i lt. omega arith)))
          (kept_by_passes test (range_with_len 0 (resources b))))

      reported_same : reported o b l s ≡ reported o b l t
      unfolding reported
      reported_same =
          ap₂ (λ cells lanes. line (codes "level") (decimal l ∷ []) ++ (cells ++ lanes))
          (joined_same _ _ (range_with_len 0 (devices b)) (all_counting (λ d. device_lines o b l s d ≡ device_lines o b l t d) 0 (devices b) (λ d hd. device_same d (omega arith))))
          (joined_same (lane_line s) (lane_line t) (lanes_below o l) (All-weaker (λ m. o.below m k ≡ true) _ (λ m below. ap₂ (λ n x. line (codes "l") (decimal m ∷ decimal n ∷ decimal x ∷ [])) (long_same o b k s t h m below) (lost_same o b k s t h m below)) _ lanes_low))

      report_verdict : (size : ℕ) → report_checked o b l size s ≡ report_checked o b l size t
      unfolding report_checked
      report_verdict size =
          ap₂ (λ c bs. bind (level_checked o l) (λ _. bind c (λ _. fits bs size))) hosted reported_same

    -- answered alike, and left alike
    abbrev Alike : Outcome → Outcome → Type 0
    Alike x y = (x.answer ≡ y.answer) × Same o b k x.after y.after

    mark_same : (on : Bool) (m : ℕ) → Same o b k (with_mark on s m) (with_mark on t m)
    mark_same on m = lane_same o b k m s t _ _ (λ below. ap (marked on) (h.lanes m below)) h

    applied_same : (m : ℕ) → o.below m k ≡ true → 1 ≤ length (s.lanes m).waiting → 1 ≤ length (t.lanes m).waiting → (v : Verdict) → Alike (applied M b m s v) (applied M b m t v)
    applied_same m below some some' (Ok x) =
        let both = turned o M b accepted k m below s t some some' good good' h in
        (ap Ok (fate_same (blocked b s.table (head s m)) _ both.blocked_same both), both.carried_same)
      where
        fate_same : (x y : Bool) → x ≡ y → Carried o M b accepted k (head s m) (head t m) (removed s m) (removed t m) → fate x (head s m) ≡ fate y (head t m)
        fate_same x y same both =
            ap (λ c. fate c (head s m)) same ∙ either y
          where
            either : (c : Bool) → fate c (head s m) ≡ fate c (head t m)
            either true = λ i. Rattle.runs.specs.Call.Blocked (both.device_same i) (both.rule_same i) (both.part_same i)
            either false = λ i. Rattle.runs.specs.Call.Applied (both.device_same i) (both.rule_same i) (both.part_same i)
    applied_same m below some some' (Err f) = (refl, mark_same false m)

    -- a call within k
    within_same : (c : Call) → within_level o b k c ≡ true → Alike (step o M b c s) (step o M b c t)
    within_same (Input d r v) inside =
        let (there, below) = and_parts (ltb r (resources b)) (low o b k r) inside in
        by_verdicts Alike _ _ s t _ _ (input_verdict d r v below)
        (λ e.
        let its = posted o M b d r v s e in
        (refl, discovered_same o M b accepted k d its.device_there (2 ^ r) (2 ^ r) _ _ (λ _ _. refl) (table_same o b k s t _ _ (write_agree b (low o b k) s.table t.table d r v h.cells) h)))
        (λ f. (refl, h))
    within_same (Take m) below =
        by_verdicts Alike _ _ s t _ _ (take_verdict m below) (λ _. (ap (λ n. Ok (Ticket m n)) h.runs, mark_same true m)) (λ f. (refl, h))
    within_same (Apply m run) below =
        by_verdicts Alike _ _ s t _ _ (spend_verdict m run below)
        (λ e.
        let some = (good.lanes m).ticketed (out_by o M b m run s e) in
        let some' = subst (λ n. 1 ≤ n) (long_same o b k s t h m below) some in
        subst (λ v. Alike (applied M b m s (cells_checked b s.table)) (applied M b m t v)) hosted (applied_same m below some some' (cells_checked b s.table)))
        (λ f. (refl, h))
    within_same (Cancel m run) below =
        by_verdicts Alike _ _ s t _ _ (spend_verdict m run below) (λ _. (refl, removed_same o M b accepted k m s t h)) (λ f. (refl, h))
    within_same (PutBack m run) below =
        by_verdicts Alike _ _ s t _ _ (spend_verdict m run below) (λ _. (refl, mark_same false m)) (λ f. (refl, h))
    within_same (Serve m n) below =
        by_verdicts Alike _ _ s t _ _ (serve_verdict m n below)
        (λ _. let both = serving_same o M b accepted k m below n s t good good' h in (ap (λ c. Ok (Count c)) both.0, both.1))
        (λ f. (refl, h))
    within_same (Waiting l) at =
        by_verdicts Alike (level_checked o l) (level_checked o l) s t _ _ refl (λ _. (ap (λ n. Ok (Count n)) (waiting_same l at), h)) (λ f. (refl, h))
    within_same (Report l size) at =
        by_verdicts Alike _ _ s t _ _ (report_verdict l at size) (λ _. (ap (λ bs. Ok (Text bs)) (reported_same l at), h)) (λ f. (refl, h))

  -- a call beyond k
  module _ (s : State) (good : Good M b s) where
    applied_beyond : (m : ℕ) → o.below m k ≡ false → 1 ≤ length (s.lanes m).waiting → (v : Verdict) → Same o b k s (applied M b m s v).after
    applied_beyond m beyond some (Ok x) = turn_beyond o M b accepted k m beyond s some good
    applied_beyond m beyond some (Err f) = lane_beyond o b k m s _ beyond

    input_beyond : (d r : ℕ) (v : ℤ) → (ltb r (resources b) && low o b k r) ≡ false → Posted b d r v s → Same o b k s (discovered M b d (2 ^ r) (with_table s (write s.table d r v))).after
    input_beyond d r v beyond its =
        let T = write s.table d r v in
        let high : (x : ℕ) → low o b k x ≡ true → r ≡ x → ⊥ = λ x at it. both_ways _ beyond (and_from _ _ (lt-ltb _ _ its.resource_there) (ap (low o b k) it ∙ at)) in
        same_trans o b k s (with_table s T) _
        (table_same o b k s s s.table T (λ e x he hx at. sym (write_other s.table d r v e x (λ _ it. high x at (sym it)))) (same_refl o b k s))
        (discovered_beyond o M b accepted k d its.device_there (2 ^ r) (with_table s T) (λ x at. ⊎_elim (λ it. absurd (high x at (only_itself r x it))) (λ none. none) (cases_Bool (has (2 ^ r) x))) (λ n. (good.lanes n).few_lost))

    beyond_same : (c : Call) → within_level o b k c ≡ false → Same o b k s (step o M b c s).after
    beyond_same (Input d r v) beyond =
        by_verdict (λ x. Same o b k s x.after) (input_checked b d r v s) s _ (λ e. input_beyond d r v beyond (posted o M b d r v s e)) (λ _ _. same_refl o b k s)
    beyond_same (Take m) beyond =
        by_verdict (λ x. Same o b k s x.after) (take_checked o m s) s _ (λ _. lane_beyond o b k m s _ beyond) (λ _ _. same_refl o b k s)
    beyond_same (Apply m run) beyond =
        by_verdict (λ x. Same o b k s x.after) (spend_checked o m run s) s _ (λ e. applied_beyond m beyond ((good.lanes m).ticketed (out_by o M b m run s e)) (cells_checked b s.table)) (λ _ _. same_refl o b k s)
    beyond_same (Cancel m run) beyond =
        by_verdict (λ x. Same o b k s x.after) (spend_checked o m run s) s _ (λ _. removed_beyond o M b accepted k m beyond s) (λ _ _. same_refl o b k s)
    beyond_same (PutBack m run) beyond =
        by_verdict (λ x. Same o b k s x.after) (spend_checked o m run s) s _ (λ _. lane_beyond o b k m s _ beyond) (λ _ _. same_refl o b k s)
    beyond_same (Serve m n) beyond =
        by_verdict (λ x. Same o b k s x.after) (serve_checked o b m n s) s _ (λ _. serving_beyond o M b accepted k m beyond n s good) (λ _ _. same_refl o b k s)
    beyond_same (Waiting l) beyond =
        by_verdict (λ x. Same o b k s x.after) (level_checked o l) s _ (λ _. same_refl o b k s) (λ _ _. same_refl o b k s)
    beyond_same (Report l size) beyond =
        by_verdict (λ x. Same o b k s x.after) (report_checked o b l size s) s _ (λ _. same_refl o b k s) (λ _ _. same_refl o b k s)

  -- a run looks like the run of its calls within k alone
  record Purged (cs : List Call) (s t : State) : Type 0 where
    tells : told o M b k cs s ≡ told o M b k (filter (within_level o b k) cs) t
    shows : Same o b k (ran o M b cs s) (ran o M b (filter (within_level o b k) cs) t)

  purged : (cs : List Call) (s t : State) → Good M b s → Good M b t → Same o b k s t → Purged cs s t
  unfolding told ran
  purged [] s t good good' h = record { tells = refl; shows = h }
  purged (c ∷ cs) s t good good' h =
      let inside = within_level o b k c in
      let s₁ = (step o M b c s).after in
      let t₁ = (step o M b c t).after in
      let kept = filter (within_level o b k) cs in
      ⊎_elim
      (λ within.
      let one = within_same s t good good' h c within in
      let rest = purged cs s₁ t₁ (step_good o M b accepted c s good) (step_good o M b accepted c t good') one.1 in
      record {
        tells = cond-true inside _ _ within ∙ ap₂ (λ a as'. a ∷ as') one.0 rest.tells ∙ sym (cond-true inside ((step o M b c t).answer ∷ told o M b k kept t₁) _ within) ∙ ap (λ xs. told o M b k xs t) (sym (cond-true inside (c ∷ kept) kept within));
        shows = subst (λ xs. Same o b k (ran o M b cs s₁) (ran o M b xs t)) (sym (cond-true inside (c ∷ kept) kept within)) rest.shows;
      })
      (λ beyond.
      let still = same_trans o b k s₁ s t (same_sym o b k s s₁ (beyond_same s good c beyond)) h in
      let rest = purged cs s₁ t (step_good o M b accepted c s good) good' still in
      record {
        tells = cond-false inside _ _ beyond ∙ rest.tells ∙ ap (λ xs. told o M b k xs t) (sym (cond-false inside (c ∷ kept) kept beyond));
        shows = subst (λ xs. Same o b k (ran o M b cs s₁) (ran o M b xs t)) (sym (cond-false inside (c ∷ kept) kept beyond)) rest.shows;
      })
      (cases_Bool inside)

-- the promise
pub isolated : (o : Order) (M : Meets) (b : Book) → Accepted o M b → Isolation o M b
isolated o M b accepted k s t cs ds start start' h calls =
    let good = started_good o M b s start in
    let good' = started_good o M b t start' in
    let one = purged o M b accepted k cs s t good good' h in
    let two = purged o M b accepted k ds t t good' good' (same_refl o b k t) in
    let alone = filter (within_level o b k) ds in
    (one.tells ∙ ap (λ xs. told o M b k xs t) calls ∙ sym two.tells, same_trans o b k _ (ran o M b alone t) _ (subst (λ xs. Same o b k (ran o M b cs s) (ran o M b xs t)) calls one.shows) (same_sym o b k _ _ two.shows))
