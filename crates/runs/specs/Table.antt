-- What a host holds: for each device and resource a value, or no cell. Assumes nothing.
use Rattle.std.specs.Prelude.{ℕ, cond, ◌&&◌, List, [], ◌∷◌, ℤ, pos, Some, None, Option, ◌==◌}
use Rattle.meaning.specs.Expression.{Expression, value}
use Rattle.runs.specs.declared.write.Write.{Write}

abbrev pub Table : Type 0
Table = ℕ → ℕ → Option ℤ

-- a new value, where there is a cell
abbrev pub renewed : Option ℤ → ℤ → Option ℤ
renewed None v = None
renewed (Some old) v = Some v

-- one cell set, where it is there, and every other as it was
abbrev pub write : Table → ℕ → ℕ → ℤ → Table
write T d r v e s = cond (e == d && s == r) (renewed (T e s) v) (T e s)

-- some cells of a device set
unfoldable pub written : Table → ℕ → List Write → Table
written T d [] = T
written T d (w ∷ ws) = written (write T d w.target w.value) d ws

-- what an expression takes a cell for: one that is not there counts as 0
abbrev pub amount : Option ℤ → ℤ
amount None = pos 0
amount (Some v) = v

abbrev pub cell : Table → ℕ → ℕ → ℤ
cell T d r = amount (T d r)

-- the value of an expression on the device d, for the receiver e
abbrev pub value_at : Table → ℕ → ℕ → Expression → ℤ
value_at T d e x = value x (cell T d) (cell T e)
