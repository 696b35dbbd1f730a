-- The three promises, as laws over whole runs: for every lawful order with meets, every book that it accepts, every start and every
-- list of calls, refused ones and tickets of any lane and run number among them. Assumes nothing.
use Rattle.std.specs.Prelude.{◌≡◌, ℕ, ◌+◌, ◌-◌, ◌≤◌, true, cond, List, [], ◌∷◌, ◌++◌, length, drop, Ok, Err, filter, ◌==◌, slice_index_or}
use Rattle.meaning.specs.Book.{Book}
use Rattle.meaning.specs.Flow.{levelled, Sound}
use Rattle.meaning.specs.Levels.{Order, Lawful, Meets, Meeting}
use Rattle.meaning.specs.WellFormed.{WellFormed}
use Rattle.runs.specs.Call.{Call, Reply, Answer, Input, Take, Apply, Cancel, PutBack, Serve, Waiting, Report, Done, Ticket, Applied, Blocked, Count, Text}
use Rattle.runs.specs.Clauses.{all_hold}
use Rattle.runs.specs.State.{State}
use Rattle.runs.specs.Step.{step}
use Rattle.runs.specs.Update.{Update}
use Rattle.runs.specs.View.{within_level, SameView, Started}

-- a book that judging accepts under an order with meets
pub record Accepted (o : Order) (M : Meets) (b : Book) : Type 0 where
  pub lawful : Lawful o
  pub meeting : Meeting o M
  pub formed : WellFormed b
  pub levels : levelled o b ≡ true
  pub sound : Sound o b

-- how many updates of the lane m a reply says were removed from it
abbrev pub counted : Reply → ℕ
counted Done = 1
counted (Ticket m run) = 0
counted (Applied d i p) = 1
counted (Blocked d i p) = 1
counted (Count n) = n
counted (Text bs) = 0

abbrev pub counted_answer : Answer → ℕ
counted_answer (Ok r) = counted r
counted_answer (Err f) = 0

-- apply, cancel and serve of the lane m remove updates from it, and their answers say how many
abbrev pub gone : ℕ → Call → Answer → ℕ
gone m (Input d r v) a = 0
gone m (Take n) a = 0
gone m (Apply n run) a = cond (m == n) (counted_answer a) 0
gone m (Cancel n run) a = cond (m == n) (counted_answer a) 0
gone m (PutBack n run) a = 0
gone m (Serve n most) a = cond (m == n) (counted_answer a) 0
gone m (Waiting k) a = 0
gone m (Report k size) a = 0

-- after a further list a lane is its earlier line, then what was let in since, less the first q
pub record Served (before came after : List Update) (q : ℕ) : Type 0 where
  pub line : after ≡ drop q (before ++ came)
  pub enough : q ≤ length (before ++ came)
  -- what had p before it has p - q before it, while q is at most p; nothing else is there
  pub places : (p : ℕ) (u : Update) → q ≤ p → slice_index_or after (p - q) u ≡ slice_index_or (before ++ came) p u
  pub no_more : length after ≡ length (before ++ came) - q

module _ (o : Order) (M : Meets) (b : Book) where
  -- the state after a list of calls
  unfoldable pub ran : List Call → State → State
  ran [] s = s
  ran (c ∷ cs) s = ran cs (step o M b c s).after

  -- the answers to those calls that are within k, in order
  unfoldable pub told : ℕ → List Call → State → List Answer
  told k [] s = []
  told k (c ∷ cs) s =
      cond (within_level o b k c) ((step o M b c s).answer ∷ told k cs (step o M b c s).after) (told k cs (step o M b c s).after)

  -- what the calls let into the lane m, in order
  unfoldable pub arrivals : ℕ → List Call → State → List Update
  arrivals m [] s = []
  arrivals m (c ∷ cs) s = (step o M b c s).came m ++ arrivals m cs (step o M b c s).after

  -- how many updates of the lane m the answers say were removed
  unfoldable pub departures : ℕ → List Call → State → ℕ
  departures m [] s = 0
  departures m (c ∷ cs) s = gone m c (step o M b c s).answer + departures m cs (step o M b c s).after

  -- isolation: what a level is told and sees depends on its own calls and its own view of the start alone
  abbrev pub Isolation : Type 0
  Isolation =
      (k : ℕ) (s t : State) (cs ds : List Call) → Started b s → Started b t → SameView o b k s t → filter (within_level o b k) cs ≡ filter (within_level o b k) ds → (told k cs s ≡ told k ds t) × SameView o b k (ran cs s) (ran ds t)

  -- order of service: lanes are lines
  abbrev pub ServiceInOrder : Type 0
  ServiceInOrder =
      (s : State) (cs ds : List Call) (m : ℕ) → Started b s → Served ((ran cs s).lanes m).waiting (arrivals m ds (ran cs s)) ((ran ds (ran cs s)).lanes m).waiting (departures m ds (ran cs s))

  -- every clause of every device holds in every state reached
  abbrev pub Invariants : Type 0
  Invariants = (s : State) (cs : List Call) → Started b s → all_hold b (ran cs s).table ≡ true

-- the three together, of one order and book
pub record Promised (o : Order) (M : Meets) (b : Book) : Type 0 where
  pub isolation : Isolation o M b
  pub service : ServiceInOrder o M b
  pub invariants : Invariants o M b

abbrev pub Promises : Type 0
Promises = (o : Order) (M : Meets) (b : Book) → Accepted o M b → Promised o M b
