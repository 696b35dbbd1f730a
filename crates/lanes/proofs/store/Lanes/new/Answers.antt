-- Every lane is idle, past the last one too.
use Rattle.std.proofs.Common.{refl}
use Rattle.lanes.proofs.Views.{view_row}
use Rattle.lanes.proofs.store.Lanes.new.Goals as goal

pub returns : goal.returns
returns c m = view_row _ 16 m _ refl refl
