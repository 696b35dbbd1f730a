-- Each kind of flow leaks: a book whose one forbidden flow is of that kind, and two runs that level 0 should see alike but tells apart.
-- If such a book were accepted, isolation would fail. Assumes nothing.
use Rattle.std.specs.Prelude.{◌≡◌, ℕ, ◌≤◌, true, List, [], ◌∷◌, filter}
use Rattle.meaning.specs.Book.{Book}
use Rattle.meaning.specs.Flow.{Flow, levelled}
use Rattle.meaning.specs.FlowList.{flow_list}
use Rattle.meaning.specs.WellFormed.{WellFormed}
use Rattle.levels.specs.Orders.{ladder, ladder_meets}
use Rattle.runs.specs.Call.{Call, Answer}
use Rattle.runs.specs.Promises.{told}
use Rattle.runs.specs.State.{State}
use Rattle.runs.specs.View.{within_level, SameView, Started}

-- a start, and the calls from there on
pub record Run : Type 0 where
  pub start : State
  pub calls : List Call

-- the calls that level 0 makes itself, and the answers to them
abbrev pub own_calls : Book → Run → List Call
own_calls b x = filter (within_level (ladder 2) b 0) x.calls

abbrev pub own_answers : Book → Run → List Answer
own_answers b x = told (ladder 2) (ladder_meets 2) b 0 x.calls x.start

-- two runs that level 0 should see alike: it sees the same of their starts, and makes the same calls
pub record Alike (b : Book) (x y : Run) : Type 0 where
  pub started : Started b x.start
  pub other_started : Started b y.start
  pub same_view : SameView (ladder 2) b 0 x.start y.start
  pub same_calls : own_calls b x ≡ own_calls b y

pub record Leak (kind : ℕ) : Type 0 where
  pub book : Book
  pub well_formed : WellFormed book
  pub levels : levelled (ladder 2) book ≡ true
  pub flow : Flow
  pub only : flow_list (ladder 2) book ≡ flow ∷ []
  pub is_of_kind : flow.kind ≡ kind
  pub run : Run
  pub other : Run
  pub alike : Alike book run other
  pub apart : own_answers book run ≡ own_answers book other → ⊥

-- a leak for each of the five kinds
abbrev pub Leaks : Type 0
Leaks = (kind : ℕ) → 1 ≤ kind → kind ≤ 5 → Leak kind
