-- The lanes that the store means: what waits in a lane is the front of its stretch. Past the last lane every lane is empty.
-- Assumes nothing.
use Rattle.std.specs.Prelude.{ℕ, ◌*◌, false, List, [], ◌∷◌, map, take, drop, Some, None, Option, slice_index_or}
use Rattle.std.proofs.Common.{lit≤}
use Rattle.lanes.specs.declared.store.LaneState.{LaneState}
use Rattle.lanes.specs.declared.store.Lanes.{Lanes}
use Rattle.lanes.specs.declared.update.Update.{Update}
use Rattle.lanes.specs.Updates.{update_means}
use Rattle.runs.specs.Lane.{Lane, lane_length}
use Rattle.runs.specs.Update as meant

-- the first n records of the stretch of the lane m
abbrev pub line : List Update → ℕ → ℕ → List Update
line store m n = take n (drop (lane_length * m) store)

-- nothing waits, nothing was lost and no ticket is out
abbrev pub idle : LaneState
idle = record { waiting = 0; lost = 0; out = false; short = lit≤ tt; counted = lit≤ tt }

abbrev pub state_at : Lanes → ℕ → LaneState
state_at l m = slice_index_or l.states m idle

-- the lane m of a store, in a state
abbrev pub lane_in : List Update → ℕ → LaneState → Lane meant.Update
lane_in store m s = record { waiting = map update_means (line store m s.waiting); lost = s.lost; out = s.out }

unfoldable pub view : Lanes → ℕ → Lane meant.Update
view l m = lane_in l.store m (state_at l m)

-- the oldest of those that wait, if there is one
abbrev pub first : {U : Type 0} → List U → Option U
first [] = None
first (u ∷ us) = Some u
