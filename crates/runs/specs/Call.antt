-- The calls on a running ensemble, and what they answer. Assumes nothing.
use Rattle.std.specs.Prelude.{ℕ, List, ℤ, Result}
use Rattle.fault.specs.declared.fault.Fault.{Fault}

-- a ticket counts by its lane and run number, and a report's buffer by its length
pub data Call : Type 0 where
  -- device, resource, value
  Input : ℕ → ℕ → ℤ → Call
  -- lane
  Take : ℕ → Call
  -- the ticket's lane and run number
  Apply Cancel PutBack : ℕ → ℕ → Call
  -- lane, at most how many
  Serve : ℕ → ℕ → Call
  -- level
  Waiting : ℕ → Call
  -- level, length of the buffer
  Report : ℕ → ℕ → Call

pub data Reply : Type 0 where
  -- input, cancel, put back
  Done : Reply
  -- take: the ticket's lane and run number
  Ticket : ℕ → ℕ → Reply
  -- apply: device, rule and part
  Applied Blocked : ℕ → ℕ → ℕ → Reply
  -- serve: how many were carried out; waiting: how many wait
  Count : ℕ → Reply
  -- report: the bytes written
  Text : List ℕ → Reply

-- a refusal is answered by its fault, whole
abbrev pub Answer : Type 0
Answer = Result Reply Fault
