-- What a preview shows. Assumes nothing.
use Rattle.runs.specs.Table.{Table}
use Rattle.evaluation.specs.declared.preview.Preview.{Preview}
use Rattle.evaluation.specs.Posted.{posted}

-- the table of a preview's host, once the changes are written
abbrev pub shown : {H : Type 0} → (H → Table) → Preview H → Table
shown table p = posted p.changes.now (table p.host.now)
