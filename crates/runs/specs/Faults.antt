-- The faults that calls answer, each with its place. Assumes nothing.
use Rattle.std.specs.Prelude.{ℕ}
use Rattle.fault.specs.declared.fault.CallCause.TheVariants.{Argument, Buffer}
use Rattle.fault.specs.declared.fault.HostCause.TheVariants.{Cells, Absent}
use Rattle.fault.specs.declared.fault.EnsembleCause.TheVariants.{Start, Input, Empty, Taken, Ticket}
use Rattle.fault.specs.declared.fault.Layer.TheVariants.{Call, Host, Ensemble}
use Rattle.fault.specs.declared.fault.Fault.{Fault}

-- an argument out of bounds: 1 device, 2 resource, 3 lane or level, 4 count or run number; and its value
abbrev pub bad_argument : ℕ → ℕ → Fault
bad_argument which value = record { layer = Call Argument; place = (which, value) }

-- a buffer of the second length, where the first is needed
abbrev pub short_buffer : ℕ → ℕ → Fault
short_buffer needed given = record { layer = Call Buffer; place = (needed, given) }

-- host and book differ in the cell of a device and resource
abbrev pub other_cells : ℕ → ℕ → Fault
other_cells d r = record { layer = Host Cells; place = (d, r) }

-- the device d has no cell of r
abbrev pub absent_cell : ℕ → ℕ → Fault
absent_cell d r = record { layer = Host Absent; place = (d, r) }

-- the clause j of the device d is false at the start
abbrev pub false_at_start : ℕ → ℕ → Fault
false_at_start j d = record { layer = Ensemble Start; place = (j, d) }

-- an input would make the clause j of the device d false
abbrev pub false_by_input : ℕ → ℕ → Fault
false_by_input j d = record { layer = Ensemble Input; place = (j, d) }

abbrev pub empty_lane : ℕ → Fault
empty_lane m = record { layer = Ensemble Empty; place = (m, 0) }

-- a ticket of the lane m is out
abbrev pub ticket_out : ℕ → Fault
ticket_out m = record { layer = Ensemble Taken; place = (m, 0) }

-- a ticket of another run, or of a lane that has none out
abbrev pub bad_ticket : ℕ → ℕ → Fault
bad_ticket m run = record { layer = Ensemble Ticket; place = (m, run) }
