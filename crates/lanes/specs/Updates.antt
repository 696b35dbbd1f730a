-- The update that a record of the store means. Assumes nothing.
use Rattle.std.specs.Prelude.{take}
use Rattle.book.specs.Parts.{number}
use Rattle.lanes.specs.declared.update.Update.{Update}
use Rattle.runs.specs.Update as meant

abbrev pub update_means : Update → meant.Update
update_means u = record { device = u.device; rule = u.rule; part = number u.part; values = take u.count u.values }
