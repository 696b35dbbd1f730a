-- The promises are not empty: there is an accepted book, and a run of it in which updates of two levels are let in, lost and applied.
-- Assumes nothing.
use Rattle.std.specs.Prelude.{◌≡◌, ℕ, ◌≤◌, List, length, Ok}
use Rattle.std.specs.List.{ContainsAt as Has}
use Rattle.meaning.specs.Book.{Book}
use Rattle.meaning.specs.Levels.{Order, Meets}
use Rattle.runs.specs.Call.{Call, Applied}
use Rattle.runs.specs.Promises.{Accepted, ran, told, arrivals, departures}
use Rattle.runs.specs.State.{State}
use Rattle.runs.specs.Update.{lane_of}
use Rattle.runs.specs.View.{Started}

-- some update enters the lane m, one is lost there, and one leaves it; and the level m is told that one of that lane is applied
pub record Busy (o : Order) (M : Meets) (b : Book) (s : State) (cs : List Call) (m : ℕ) : Type 0 where
  pub enters : 1 ≤ length (arrivals o M b m cs s)
  pub loses : 1 ≤ ((ran o M b cs s).lanes m).lost
  pub leaves : 1 ≤ departures o M b m cs s
  pub applies : (d i p : ℕ) × (lane_of M b i p ≡ m) × Has (told o M b m cs s) (Ok (Applied d i p))

pub record Lively : Type 0 where
  pub order : Order
  pub meets : Meets
  pub book : Book
  pub accepted : Accepted order meets book
  pub start : State
  pub started : Started book start
  pub calls : List Call
  pub low : Busy order meets book start calls 0
  pub high : Busy order meets book start calls 1
