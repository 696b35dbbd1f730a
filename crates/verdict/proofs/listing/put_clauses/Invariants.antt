use Rattle.std.proofs.Common.{◌+◌, ◌*◌, ◌≤◌, filter}
use Rattle.std.specs.List.{range_with_len, flat_map}
use Rattle.meaning.specs.Flow.{forbidden}
use Rattle.meaning.specs.FlowList.{of_clause}
use Rattle.levels.specs.Scales.{scaled}
use Rattle.book.specs.Means.{means}
use Rattle.verdict.specs.Puts.{PutInto}
use Rattle.verdict.proofs.listing.put_clauses.Given as goal

-- the flows of the clauses so far are put
abbrev pub invariant-loop-number : goal.invariant-loop-number
invariant-loop-number l =
    PutInto l.fn.buffer l.buffer (filter (forbidden (scaled l.scale) (means l.book)) (flat_map (of_clause (means l.book)) (range_with_len 0 l.number))) × (l.buffer.at ≤ l.fn.buffer.at + 5120 * l.number)
