-- What taking an instruction off the front of some code gives. Assumes nothing.
use Rattle.std.specs.Prelude.{ℕ, List, drop, Option}
use Rattle.std.specs.Borrow.{Bor}
use Rattle.std.specs.Option.{option_map}
use Rattle.meaning.specs.declared.instruction.Instruction.{Instruction}
use Rattle.meaning.specs.Expression.{Front, front}

-- the instruction, and the code that a reference shows
abbrev pub seen : Instruction × Bor (List ℕ) → Instruction × List ℕ
seen p = (p.0, p.1.now)

-- an instruction that was found at the front of bs, and the code after it
abbrev pub past : List ℕ → Option Front → Option (Instruction × List ℕ)
past bs o = option_map (λ f. (f.instruction, drop f.size bs)) o

-- the instruction at the front, and the code after it
abbrev pub taken : List ℕ → Option (Instruction × List ℕ)
taken bs = past bs (front bs)
