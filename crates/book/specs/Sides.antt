-- What is read of one side, and what lets a set of resources be a mask of 32 bits. Assumes nothing.
use Rattle.std.specs.Prelude.{◌≡◌, ℕ, Bool, true, List, nat_lt}
use Rattle.meaning.specs.declared.instruction.Instruction.{Instruction}
use Rattle.meaning.specs.declared.instruction.Instruction.TheVariants.{Constant, Own, Receiver, Apply}
use Rattle.meaning.specs.Expression as meant
use Rattle.meaning.specs.Expression.{Expression, decoded}
use Rattle.meaning.specs.WellFormed.{every}
use Rattle.book.specs.declared.sides.Side.{Side}
use Rattle.book.specs.declared.sides.Side.TheVariants as side

-- the cell of one side that an instruction reads, beside the members of m
abbrev pub read_of : Side → ℕ → Instruction → ℕ
read_of side.Own m i = meant.own_read m i
read_of side.Receiver m i = meant.asked m i

-- the cells of one side that an expression reads, beside the members of m
abbrev pub reads_of : Side → ℕ → Expression → ℕ
reads_of side.Own m e = meant.reads m e
reads_of side.Receiver m e = meant.asks m e

-- a resource that is read is below 32
abbrev pub small : Instruction → Bool
small (Constant v) = true
small (Own r) = nat_lt r 32
small (Receiver r) = nat_lt r 32
small (Apply o) = true

abbrev pub Small : List ℕ → Type 0
Small code = every small (decoded code) ≡ true
