-- The number of each cause, which also says the layer it belongs to, and the text of a fault. Assumes nothing.
use Rattle.std.specs.Prelude.{ℕ, List, ◌++◌, codes, decimal}
use Rattle.fault.specs.declared.fault.BookCause.TheVariants.{Frame, Count, Field, Expression, Cell}
use Rattle.fault.specs.declared.fault.OrderCause.TheVariants.{Level, Flow}
use Rattle.fault.specs.declared.fault.CallCause.TheVariants.{Argument, Buffer}
use Rattle.fault.specs.declared.fault.HostCause.TheVariants.{Cells, Absent}
use Rattle.fault.specs.declared.fault.EnsembleCause.TheVariants.{Start, Input, Empty, Taken, Ticket}
use Rattle.fault.specs.declared.fault.Layer.{Layer}
use Rattle.fault.specs.declared.fault.Layer.TheVariants.{Book, Order, Call, Host, Ensemble}
use Rattle.fault.specs.declared.fault.Fault.{Fault}

abbrev pub number : Layer → ℕ
number (Book Frame) = 1
number (Book Count) = 2
number (Book Field) = 3
number (Book Expression) = 4
number (Book Cell) = 5
number (Order Level) = 6
number (Order Flow) = 7
number (Call Argument) = 8
number (Call Buffer) = 9
number (Host Cells) = 20
number (Ensemble Start) = 21
number (Host Absent) = 22
number (Ensemble Input) = 23
number (Ensemble Empty) = 24
number (Ensemble Taken) = 25
number (Ensemble Ticket) = 26

-- "no", the number and the place, with single spaces
abbrev pub shown_fault : Fault → List ℕ
shown_fault f = codes "no " ++ (decimal (number f.layer) ++ (codes " " ++ (decimal f.place.0 ++ (codes " " ++ decimal f.place.1))))
