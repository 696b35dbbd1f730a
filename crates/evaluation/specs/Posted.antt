-- What a table comes to under changes that are to be written. Assumes nothing.
use Rattle.std.specs.Prelude.{ℕ, cond, List, [], ◌∷◌, take, ℤ, ◌==◌}
use Rattle.runs.specs.Table.{Table, written}
use Rattle.runs.specs.declared.write.Write.{Write}
use Rattle.evaluation.specs.declared.changes.Changes.{Changes}

-- the writes that are used, in their order
abbrev pub writes_of : Changes → List Write
writes_of c = take c.count c.writes

-- a table once the changes are written
abbrev pub posted : Changes → Table → Table
posted c T = written T c.device (writes_of c)

-- the value of one cell after some writes to its device: the last write to the cell counts
unfoldable pub last_of : ℕ → ℤ → List Write → ℤ
last_of r v [] = v
last_of r v (w ∷ ws) = last_of r (cond (r == w.target) w.value v) ws

-- the value of one cell of any device under changes
abbrev pub overridden : Changes → ℕ → ℕ → ℤ → ℤ
overridden c d r v = cond (d == c.device) (last_of r v (writes_of c)) v
