-- A leak for each kind: both runs are computed, and what level 0 is told is not the same. Assumes nothing.
use Rattle.std.proofs.Common.{◌≡◌, ℕ, zero, suc, ◌≤◌, true, false, eqb, List, [], ◌∷◌, map, length, ℤ, pos, Ok, Err, sum, refl, ap, arith}
use Rattle.std.proofs.lemmas.Bool.{eqb-false}
use Rattle.meaning.specs.Book.{Rule, Clause, Book}
use Rattle.meaning.specs.Flow.{Flow}
use Rattle.meaning.specs.FlowList.{flow, flow_list}
use Rattle.meaning.specs.WellFormed.{Ruled}
use Rattle.levels.specs.Orders.{ladder}
use Rattle.runs.specs.Call.{Call, Answer, Input, Take, Apply, Serve, Waiting, Report, Done, Ticket, Applied, Blocked, Count, Text}
use Rattle.runs.specs.Clauses.{all_hold}
use Rattle.examples.specs.Books.{low_high, event_book, condition_book, value_book, watch_book, clause_book}
use Rattle.examples.specs.Leaks.{Run, own_calls, own_answers, Leak, Leaks}
use Rattle.examples.proofs.Computes.{flows_compute, rules_compute, runs_compute}
use Rattle.examples.proofs.Starts.{held, start_with, started, views_alike, well_formed, levels_inside}

-- a number by which answers are told apart
abbrev mark : Answer → ℕ
mark (Ok Done) = 0
mark (Ok (Ticket m run)) = 0
mark (Ok (Applied d i p)) = 0
mark (Ok (Blocked d i p)) = 1
mark (Ok (Count n)) = n
mark (Ok (Text bs)) = sum bs
mark (Err f) = 1

abbrev marks : Book → Run → ℕ
marks b x = sum (map mark (own_answers b x))

abbrev run_with : ℤ → List Call → Run
run_with y calls = record { start = start_with y; calls = calls }

-- two runs of a small book, with two values of resource 1; what small books share is already shown
module _ (rs : List Rule) (cs : List Clause) (f : Flow) (y z : ℤ) (calls others : List Call) where
  abbrev book : Book
  book = low_high rs cs

  leak : length rs ≤ 32 → length cs ≤ 32 → Ruled book → flow_list (ladder 2) book ≡ f ∷ [] → all_hold book (held y) ≡ true → all_hold book (held z) ≡ true → own_calls book (run_with y calls) ≡ own_calls book (run_with z others) → eqb (marks book (run_with y calls)) (marks book (run_with z others)) ≡ false → Leak f.kind
  leak few_rules few_clauses ruled only holds other_holds same_calls differ =
      record {
        book = book;
        well_formed = well_formed rs cs few_rules few_clauses ruled;
        levels = levels_inside rs cs;
        flow = f;
        only = only;
        is_of_kind = refl;
        run = run_with y calls;
        other = run_with z others;
        alike = record { started = started rs cs y holds; other_started = started rs cs z other_holds; same_view = views_alike rs cs y z; same_calls = same_calls };
        apart = λ e. eqb-false _ _ differ (ap (λ answers. sum (map mark answers)) e);
      }

-- an input of level 1 leaves level 0 an update that it can count
event_leak : Leak 1
unfolding flows_compute rules_compute runs_compute
event_leak =
    leak event_book.rules event_book.clauses (flow 0 0 1 0 1) (pos 0) (pos 0) (Waiting 0 ∷ []) (Input 0 1 (pos 5) ∷ Waiting 0 ∷ [])
    (omega arith) (omega arith) (refl, refl, refl, refl) refl refl refl refl refl

-- an update waits exactly where the condition held
condition_leak : Leak 2
unfolding flows_compute rules_compute runs_compute
condition_leak =
    let calls : List Call = Input 0 0 (pos 0) ∷ Waiting 0 ∷ [] in
    leak condition_book.rules condition_book.clauses (flow 0 1 2 0 1) (pos 0) (pos 1) calls calls
    (omega arith) (omega arith) (refl, refl, refl, refl) refl refl refl refl refl

-- the value is copied to where level 0 sees it
value_leak : Leak 3
unfolding flows_compute rules_compute runs_compute
value_leak =
    let calls : List Call = Input 0 0 (pos 0) ∷ Serve 0 1 ∷ Report 0 1000 ∷ [] in
    leak value_book.rules value_book.clauses (flow 0 0 3 0 1) (pos 0) (pos 1) calls calls
    (omega arith) (omega arith) (refl, refl, refl, refl) refl refl refl refl refl

-- the update is applied in one run and blocked in the other
watch_leak : Leak 4
unfolding flows_compute rules_compute runs_compute
watch_leak =
    let calls : List Call = Input 0 0 (pos 0) ∷ Take 0 ∷ Apply 0 0 ∷ [] in
    leak watch_book.rules watch_book.clauses (flow 0 0 4 0 1) (pos 1) (pos 4) calls calls
    (omega arith) (omega arith) (refl, refl, refl, refl) refl refl refl refl refl

-- the input is refused in one run and done in the other
clause_leak : Leak 5
unfolding flows_compute rules_compute runs_compute
clause_leak =
    let calls : List Call = Input 0 0 (pos 3) ∷ [] in
    leak clause_book.rules clause_book.clauses (flow 32 0 5 0 1) (pos 2) (pos 5) calls calls
    (omega arith) (omega arith) (refl, refl, refl, refl) refl refl refl refl refl

pub leaks : Leaks
leaks zero low high = absurd (omega arith)
leaks (suc zero) low high = event_leak
leaks (suc (suc zero)) low high = condition_leak
leaks (suc (suc (suc zero))) low high = value_leak
leaks (suc (suc (suc (suc zero)))) low high = watch_leak
leaks (suc (suc (suc (suc (suc zero))))) low high = clause_leak
leaks (suc (suc (suc (suc (suc (suc n)))))) low high = absurd (omega arith)
