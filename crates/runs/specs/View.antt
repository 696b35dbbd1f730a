-- What a level sees of a run, and which calls are its own. Assumes nothing.
use Rattle.std.specs.Prelude.{◌≡◌, ℕ, ◌<◌, ◌≤◌, Bool, true, ◌&&◌, List, is_some, filter, nat_lt}
use Rattle.meaning.specs.Book.{Book, devices, resources, cells_of}
use Rattle.meaning.specs.Flow.{level}
use Rattle.meaning.specs.Levels.{Order}
use Rattle.meaning.specs.Sets.{has}
use Rattle.runs.specs.Call.{Call, Input, Take, Apply, Cancel, PutBack, Serve, Waiting, Report}
use Rattle.runs.specs.Clauses.{all_hold}
use Rattle.runs.specs.Lane.{Lane, empty_lane, seen_through}
use Rattle.runs.specs.State.{State}
use Rattle.runs.specs.Table.{Table}
use Rattle.runs.specs.declared.write.Write.{Write}
use Rattle.runs.specs.Update.{Update, writes}

-- a call is within k where the resource, lane or level that it names is there, and at or below k
abbrev pub within_level : Order → Book → ℕ → Call → Bool
within_level o b k (Input d r v) = nat_lt r (resources b) && o.below (level b r) k
within_level o b k (Take m) = o.below m k
within_level o b k (Apply m run) = o.below m k
within_level o b k (Cancel m run) = o.below m k
within_level o b k (PutBack m run) = o.below m k
within_level o b k (Serve m n) = o.below m k
within_level o b k (Waiting l) = o.below l k
within_level o b k (Report l size) = o.below l k

-- of an update a level sees device, rule, part, and the values of targets at or below it
pub record Seen : Type 0 where
  pub device : ℕ
  pub rule : ℕ
  pub part : ℕ
  pub values : List Write

abbrev pub seen : Order → Book → ℕ → Update → Seen
seen o b k u =
    record { device = u.device; rule = u.rule; part = u.part; values = filter (λ w. o.below (level b w.target) k) (writes b u) }

-- of a lane it sees the mark, the losses, and what it sees of each update, in order
abbrev pub shown : Order → Book → ℕ → Lane Update → Lane Seen
shown o b k l = seen_through (seen o b k) l

-- k sees the same of two states: the run number, the cells at or below k, and the lanes at or below k
pub record SameView (o : Order) (b : Book) (k : ℕ) (s t : State) : Type 0 where
  pub runs : s.run ≡ t.run
  pub cells : (d r : ℕ) → d < devices b → r < resources b → o.below (level b r) k ≡ true → s.table d r ≡ t.table d r
  pub lanes : (m : ℕ) → o.below m k ≡ true → shown o b k (s.lanes m) ≡ shown o b k (t.lanes m)

-- a host has the book's cells under the counts; it may have others elsewhere
abbrev pub Hosts : Book → Table → Type 0
Hosts b T = (d r : ℕ) → d < devices b → r < resources b → is_some (T d r) ≡ has (cells_of b d) r

-- a state that start makes: any host of the book on which every clause holds, empty lanes, any run number
pub record Started (b : Book) (s : State) : Type 0 where
  pub hosts : Hosts b s.table
  pub holds : all_hold b s.table ≡ true
  pub empty : (m : ℕ) → s.lanes m ≡ empty_lane
  pub numbered : s.run ≤ 65535
