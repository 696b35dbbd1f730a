-- The table is the order, so it keeps its laws.
use Rattle.levels.proofs.Tables.{is_table}
use Rattle.levels.proofs.writing.written_out.Goals as goal

pub invariant_of-result : goal.invariant_of-result
invariant_of-result g c =
    let is = is_table _ _ (g.met.O.Order.lawful c.args.order.now) (g.met.O.Order.meeting c.args.order.now) _ c.count.ensures _ c.pairs.ensures in
    record { lawful = is.lawful; meeting = is.meeting }

pub returns : goal.returns
returns g c =
    let is = is_table _ _ (g.met.O.Order.lawful c.args.order.now) (g.met.O.Order.meeting c.args.order.now) _ c.count.ensures _ c.pairs.ensures in
    record { ranks = is.ranks; meets = is.meets }
