-- The flows of the rules, then those of the clauses.
use Rattle.std.proofs.Common.{◌≡◌, ◌∙◌, length, rules}
use Rattle.std.specs.List.{range_with_len, flat_map}
use Rattle.meaning.specs.Flow.{forbidden}
use Rattle.meaning.specs.FlowList.{of_rule, of_clause, flow_list}
use Rattle.levels.specs.Scales.{scaled}
use Rattle.book.specs.Means.{means}
use Rattle.verdict.proofs.Putting.{into-append}
use Rattle.verdict.proofs.listing.put_flows.Goals as goal

pub returns-clause-put : goal.returns-clause-put
unfolding flow_list
returns-clause-put c =
    let b = means c.args.book.now.book.now in
    let put = into-append (forbidden (scaled c.args.scale.now) b) (flat_map (of_rule b) (range_with_len 0 (length b.rules))) (flat_map (of_clause b) (range_with_len 0 (length b.clauses))) c.put_rules.ensures.put c.put_clauses.ensures.put in
    let lent = put.lent in
    let back : _ ≡ c.put_clauses.new.buffer.out.now = search rules in
    record { bytes = back ∙ put.put.bytes; ends = put.put.ends }
