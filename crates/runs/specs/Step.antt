-- One call: its refusals in their order, and else what it does and answers. Assumes nothing.
use Rattle.std.specs.Prelude.{ℕ, ◌^◌, Bool, true, false, cond, not, ◌&&◌, List, length, ℤ, is_some, Some, None, Ok, Err, Option, ◌==◌, nat_le, nat_lt}
use Rattle.fault.specs.declared.fault.Fault.{Fault}
use Rattle.meaning.specs.Book.{Book, devices, resources, cells_of}
use Rattle.meaning.specs.Checks.{require, bind, through}
use Rattle.meaning.specs.Levels.{Order, Meets}
use Rattle.meaning.specs.Reading.{Verdict}
use Rattle.meaning.specs.Sets.{has}
use Rattle.runs.specs.Call as call
use Rattle.runs.specs.Call.{Answer, Reply}
use Rattle.runs.specs.Clauses.{concerns, failing}
use Rattle.runs.specs.Faults.{bad_argument, short_buffer, other_cells, absent_cell, false_by_input, empty_lane, ticket_out, bad_ticket}
use Rattle.runs.specs.Lane.{marked, with_lane}
use Rattle.runs.specs.Report.{waiting_below, reported}
use Rattle.runs.specs.State.{State, Turn, Service, none, with_table, with_lanes, discovered, head, removed, turn, blocked, serving}
use Rattle.runs.specs.Table.{Table, write}
use Rattle.runs.specs.Update.{Update}

-- the state after a call, its answer, and what it let into each lane, in order
pub record Outcome : Type 0 where
  pub after : State
  pub answer : Answer
  pub came : ℕ → List Update

abbrev pub answered : State → Answer → Outcome
answered s a = record { after = s; answer = a; came = none }

-- a refusal alters nothing
abbrev pub unless_refused : Verdict → State → Outcome → Outcome
unless_refused (Ok _) s next = next
unless_refused (Err f) s next = answered s (Err f)

-- a service carries out at most as many updates
abbrev pub most_served : ℕ
most_served = 1000

-- a lane or a level is one of the order
abbrev pub level_checked : Order → ℕ → Verdict
level_checked o k = require (nat_lt k o.count) (bad_argument 3 k) (Ok tt)

-- the host has a cell exactly where the book has one
abbrev pub cell_checked : Book → Table → ℕ → ℕ → Unit {0} → Verdict
cell_checked b T d r _ =
    require (cond (has (cells_of b d) r) (is_some (T d r)) (not (is_some (T d r)))) (other_cells d r) (Ok tt)

abbrev pub device_checked : Book → Table → ℕ → Unit {0} → Verdict
device_checked b T d _ = through (cell_checked b T d) (resources b) 0 tt

-- host and book have the same cells, by device and then by resource
unfoldable pub cells_checked : Book → Table → Verdict
cells_checked b T = through (device_checked b T) (devices b) 0 tt

-- no clause fails; the fault is that of the first which does
abbrev pub none_failing : (ℕ → Fault) → Option ℕ → Verdict
none_failing fault None = Ok tt
none_failing fault (Some j) = Err (fault j)

-- no ticket of the lane m is out
abbrev pub untaken : State → ℕ → Verdict
untaken s m = require (not (s.lanes m).out) (ticket_out m) (Ok tt)

-- something waits in the lane m
abbrev pub not_empty : State → ℕ → Verdict
not_empty s m =
    require (nat_le 1 (length (s.lanes m).waiting)) (empty_lane m) (Ok tt)

-- a ticket is of this run, and its lane has one out
abbrev pub ticket_checked : State → ℕ → ℕ → Verdict
ticket_checked s m run =
    require (run == s.run && (s.lanes m).out) (bad_ticket m run) (Ok tt)

-- bytes fit a buffer
abbrev pub fits : List ℕ → ℕ → Verdict
fits bs size = require (nat_le (length bs) size) (short_buffer (length bs) size) (Ok tt)

-- the mark of the lane m set or cleared
abbrev pub with_mark : Bool → State → ℕ → State
with_mark t s m = with_lanes s (with_lane s.lanes m (marked t (s.lanes m)))

unfoldable pub input_checked : Book → ℕ → ℕ → ℤ → State → Verdict
input_checked b d r v s =
    require (nat_lt d (devices b)) (bad_argument 1 d)
    (require (nat_lt r (resources b)) (bad_argument 2 r)
    (bind (cells_checked b s.table) (λ _.
    require (has (cells_of b d) r) (absent_cell d r)
    (none_failing (λ j. false_by_input j d) (failing b (write s.table d r v) (concerns d (2 ^ r)))))))

unfoldable pub take_checked : Order → ℕ → State → Verdict
take_checked o m s = bind (level_checked o m) (λ _. bind (untaken s m) (λ _. not_empty s m))

-- apply, cancel and put back: the ticket's lane and run number
unfoldable pub spend_checked : Order → ℕ → ℕ → State → Verdict
spend_checked o m run s = bind (level_checked o m) (λ _. ticket_checked s m run)

unfoldable pub serve_checked : Order → Book → ℕ → ℕ → State → Verdict
serve_checked o b m n s =
    bind (level_checked o m) (λ _.
    require (nat_le 1 n && nat_le n most_served) (bad_argument 4 n)
    (bind (cells_checked b s.table) (λ _. untaken s m)))

unfoldable pub report_checked : Order → Book → ℕ → ℕ → State → Verdict
report_checked o b k size s =
    bind (level_checked o k) (λ _. bind (cells_checked b s.table) (λ _. fits (reported o b k s) size))

-- a turn with its answer
abbrev pub by_turn : Turn → Answer → Outcome
by_turn t a = record { after = t.after; answer = a; came = t.came }

abbrev pub by_service : Service → Outcome
by_service t = record { after = t.after; answer = Ok (call.Count t.count); came = t.came }

-- what became of an update
abbrev pub fate : Bool → Update → Reply
fate true u = call.Blocked u.device u.rule u.part
fate false u = call.Applied u.device u.rule u.part

-- apply with a ticket that counts; a host that differs clears the mark and leaves the update
abbrev pub applied : Meets → Book → ℕ → State → Verdict → Outcome
applied M b m s (Ok _) = by_turn (turn M b m s) (Ok (fate (blocked b s.table (head s m)) (head s m)))
applied M b m s (Err f) = answered (with_mark false s m) (Err f)

-- one call
abbrev pub step : Order → Meets → Book → call.Call → State → Outcome
step o M b (call.Input d r v) s =
    unless_refused (input_checked b d r v s) s (by_turn (discovered M b d (2 ^ r) (with_table s (write s.table d r v))) (Ok call.Done))
step o M b (call.Take m) s =
    unless_refused (take_checked o m s) s (answered (with_mark true s m) (Ok (call.Ticket m s.run)))
step o M b (call.Apply m run) s = unless_refused (spend_checked o m run s) s (applied M b m s (cells_checked b s.table))
step o M b (call.Cancel m run) s = unless_refused (spend_checked o m run s) s (answered (removed s m) (Ok call.Done))
step o M b (call.PutBack m run) s =
    unless_refused (spend_checked o m run s) s (answered (with_mark false s m) (Ok call.Done))
step o M b (call.Serve m n) s = unless_refused (serve_checked o b m n s) s (by_service (serving M b m n s))
step o M b (call.Waiting k) s = unless_refused (level_checked o k) s (answered s (Ok (call.Count (waiting_below o k s))))
step o M b (call.Report k size) s =
    unless_refused (report_checked o b k size s) s (answered s (Ok (call.Text (reported o b k s))))
