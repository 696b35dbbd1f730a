-- Lanes: lines of at most 16 that wait, with a count of those that found no room, and a mark that says that a ticket for the head is
-- out. A lane is the same thing whatever waits in it. Assumes nothing.
use Rattle.std.specs.Prelude.{ℕ, ◌+◌, ◌-◌, min, Bool, false, cond, List, [], ◌++◌, map, length, take, drop, ◌==◌}

pub record Lane (U : Type 0) : Type 0 where
  pub waiting : List U
  pub lost : ℕ
  pub out : Bool

abbrev pub lane_length : ℕ
lane_length = 16

-- a count of losses stops here
abbrev pub most_lost : ℕ
most_lost = 4294967295

abbrev pub empty_lane : {U : Type 0} → Lane U
empty_lane = record { waiting = []; lost = 0; out = false }

abbrev pub room : {U : Type 0} → Lane U → ℕ
room l = lane_length - length l.waiting

-- those of some arrivals that find room
abbrev pub let_in : {U : Type 0} → Lane U → List U → List U
let_in l us = take (room l) us

-- after some arrivals: those that find room wait at the end, and the others are counted as lost
abbrev pub accept : {U : Type 0} → Lane U → List U → Lane U
accept l us =
    record { waiting = l.waiting ++ let_in l us; lost = min most_lost (l.lost + (length us - room l)); out = l.out }

-- the head removed, and no ticket out
abbrev pub served : {U : Type 0} → Lane U → Lane U
served l = record { waiting = drop 1 l.waiting; lost = l.lost; out = false }

-- a ticket out, or none
abbrev pub marked : {U : Type 0} → Bool → Lane U → Lane U
marked t l = record { waiting = l.waiting; lost = l.lost; out = t }

-- what waits, seen through f
abbrev pub seen_through : {U V : Type 0} → (U → V) → Lane U → Lane V
seen_through f l = record { waiting = map f l.waiting; lost = l.lost; out = l.out }

-- one lane replaced
abbrev pub with_lane : {U : Type 0} → (ℕ → Lane U) → ℕ → Lane U → ℕ → Lane U
with_lane lanes m l n = cond (n == m) l (lanes n)
