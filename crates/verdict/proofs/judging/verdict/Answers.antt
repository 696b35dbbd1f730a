-- Levels first, then the first flow that was put.
use Rattle.std.proofs.Common.{Err, sym, ap, ◌∙◌}
use Rattle.fault.specs.declared.fault.OrderCause.TheVariants as cause
use Rattle.fault.specs.declared.fault.Layer.TheVariants as layer
use Rattle.meaning.specs.Checks.{bind}
use Rattle.meaning.specs.FlowList.{flow_list}
use Rattle.levels.specs.Scales.{scaled}
use Rattle.book.specs.Means.{means}
use Rattle.verdict.specs.Verdicts.{flowless, judged}
use Rattle.verdict.proofs.Judged.{first_flow}
use Rattle.verdict.proofs.judging.verdict.Goals as goal

pub returns-then-put_flows-gt0 : goal.returns-then-put_flows-gt0
returns-then-put_flows-gt0 c =
    let o = scaled c.args.scale.now in
    let b = means c.checked-book.result.book.now in
    let first = first_flow (flow_list o b) c.put_flows.new.out c.put_flows.result c.put_flows.ensures.put c.if-put_flows-gt0.true in
    (λ i. Err (record { layer = layer.Order cause.Flow; place = (c.from.ensures i, c.from-then-put_flows-gt0.ensures i) }))
    ∙ sym (ap (λ v. bind v (λ _. flowless (flow_list o b))) (sym c.in_ok-levels_known.ensures) ∙ first)
    ∙ ap (λ x. judged o (means x)) c.checked-book.ensures
