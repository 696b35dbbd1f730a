use Rattle.std.proofs.Common.{◌+◌, ◌*◌, ◌≤◌, get_or, filter}
use Rattle.std.specs.List.{range_with_len, flat_map}
use Rattle.meaning.specs.FlowList.{to_target}
use Rattle.levels.specs.Scales.{scaled}
use Rattle.book.specs.Means.{means}
use Rattle.verdict.specs.Kinds.{number}
use Rattle.verdict.specs.Puts.{PutInto}
use Rattle.verdict.specs.Rows.{in_row}
use Rattle.verdict.proofs.case.Case.put_row.Given as goal

-- the flows to the targets so far are put
abbrev pub invariant-loop-target : goal.invariant-loop-target
invariant-loop-target l =
    PutInto l.fn.buffer l.buffer (filter (in_row (scaled l.self.scale.now) (means l.self.book.now) l.targets (λ t. get_or l.sources t 0)) (flat_map (to_target (means l.self.book.now) l.row.rule l.row.part (number l.row.kind)) (range_with_len 0 l.target))) × (l.buffer.at ≤ l.fn.buffer.at + 160 * l.target)
