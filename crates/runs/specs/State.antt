-- The state of a run, and what one update does to it. Assumes nothing.
use Rattle.std.specs.Prelude.{ℕ, zero, suc, ◌+◌, Bool, cond, List, [], ◌∷◌, ◌++◌, is_some, slice_index_or}
use Rattle.meaning.specs.Book.{Book}
use Rattle.meaning.specs.Expression.{same}
use Rattle.meaning.specs.Levels.{Meets}
use Rattle.meaning.specs.Sets.{with_member}
use Rattle.runs.specs.Clauses.{concerns, failing}
use Rattle.runs.specs.Discovery.{formed, settled, arrived}
use Rattle.runs.specs.Lane.{Lane, served, with_lane}
use Rattle.runs.specs.Table.{Table, written, cell}
use Rattle.runs.specs.declared.write.Write.{Write}
use Rattle.runs.specs.Update.{Update, no_update, writes, targets}

-- the run number of the start, the host's table, and the lanes by level
pub record State : Type 0 where
  pub run : ℕ
  pub table : Table
  pub lanes : ℕ → Lane Update

abbrev pub with_table : State → Table → State
with_table s T = record { run = s.run; table = T; lanes = s.lanes }

abbrev pub with_lanes : State → (ℕ → Lane Update) → State
with_lanes s lanes = record { run = s.run; table = s.table; lanes = lanes }

-- the state after something happened, and what it let into each lane, in order
pub record Turn : Type 0 where
  pub after : State
  pub came : ℕ → List Update

abbrev pub none : ℕ → List Update
none m = []

-- nothing happened
abbrev pub still : State → Turn
still s = record { after = s; came = none }

-- a change of some resources on the device d, already in the table, forms updates
unfoldable pub discovered : Meets → Book → ℕ → ℕ → State → Turn
discovered M b d changed s =
    record { after = with_lanes s (settled M b s.lanes (formed b s.table d changed)); came = arrived M b s.lanes (formed b s.table d changed) }

-- the targets that are to have another value than they have, beside the members of m
unfoldable pub differing : Table → ℕ → ℕ → List Write → ℕ
differing T d m [] = m
differing T d m (w ∷ ws) = differing T d (cond (same (cell T d w.target) w.value) m (with_member m w.target)) ws

-- the table with all targets of an update set together
abbrev pub updated : Book → Table → Update → Table
updated b T u = written T u.device (writes b u)

-- a clause of the device that reads a target would be false afterwards
abbrev pub blocked : Book → Table → Update → Bool
blocked b T u = is_some (failing b (updated b T u) (concerns u.device (targets b u)))

-- an update is carried out: blocked, or its targets are set and what differs is discovered
unfoldable pub carried_out : Meets → Book → Update → State → Turn
carried_out M b u s =
    cond (blocked b s.table u) (still s)
    (discovered M b u.device (differing s.table u.device 0 (writes b u)) (with_table s (updated b s.table u)))

-- the oldest update of the lane m
abbrev pub head : State → ℕ → Update
head s m = slice_index_or (s.lanes m).waiting 0 no_update

-- the head of the lane m removed, and its ticket spent
abbrev pub removed : State → ℕ → State
removed s m = with_lanes s (with_lane s.lanes m (served (s.lanes m)))

-- the head of the lane m is removed and then carried out
abbrev pub turn : Meets → Book → ℕ → State → Turn
turn M b m s = carried_out M b (head s m) (removed s m)

-- a service of a lane: as a turn, and how many updates were carried out
pub record Service : Type 0 where
  pub after : State
  pub came : ℕ → List Update
  pub count : ℕ

abbrev pub idle : State → Service
idle s = record { after = s; came = none; count = 0 }

-- a turn, and then the rest of a service
abbrev pub one_more : Turn → Service → Service
one_more t rest =
    record { after = rest.after; came = λ m. t.came m ++ rest.came m; count = 1 + rest.count }

-- up to n turns, until the lane m is empty
unfoldable pub serving : Meets → Book → ℕ → ℕ → State → Service
serving M b m zero s = idle s
serving M b m (suc n) s =
    elim (s.lanes m).waiting [ [] ↦ idle s | u ∷ us ↦ one_more (turn M b m s) (serving M b m n (turn M b m s).after) ]
