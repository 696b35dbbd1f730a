use Rattle.std.proofs.Common.{◌+◌, ◌*◌, ◌≤◌, map, filter}
use Rattle.std.specs.List.{range_with_len}
use Rattle.meaning.specs.FlowList.{flow}
use Rattle.levels.specs.Scales.{scaled}
use Rattle.book.specs.Means.{means}
use Rattle.verdict.specs.Kinds.{number}
use Rattle.verdict.specs.Puts.{PutInto}
use Rattle.verdict.specs.Rows.{leaks}
use Rattle.verdict.proofs.case.Case.put_target.Given as goal

-- the flows from the sources so far are put
abbrev pub invariant-loop-source : goal.invariant-loop-source
invariant-loop-source l =
    PutInto l.fn.buffer l.buffer (filter (leaks (scaled l.self.scale.now) (means l.self.book.now) l.sources) (map (flow l.row.rule l.row.part (number l.row.kind) l.target) (range_with_len 0 l.source))) × (l.buffer.at ≤ l.fn.buffer.at + 5 * l.source)
