-- Each turn has one receiver.
use Rattle.std.proofs.Common.{ap, ◌∙◌}
use Rattle.book.specs.Means.{means}
use Rattle.lanes.specs.View.{view}
use Rattle.lanes.proofs.Views.{view_bounded}
use Rattle.runs.specs.Discovery.{settled}
use Rattle.verdict.proofs.Blocks.{joined_one}
use Rattle.discovery.specs.Forming.{by_task_for}
use Rattle.discovery.proofs.Settling.{settled_none, settled_then}
use Rattle.discovery.proofs.firing.Firing.by_remote_task.Goals as goal

pub loop-receiver-init : goal.loop-receiver-init
loop-receiver-init g c M routed =
    settled_none M (means c.args.self.now.rule.of.book.now) (view c.args.lanes.now) (λ n. (view_bounded c.args.lanes.now n).few_lost)

pub loop-receiver-preserved : goal.loop-receiver-preserved
loop-receiver-preserved g c M routed =
    let b = means c.args.self.now.rule.of.book.now in
    let f = by_task_for b (g.H.Host.table c.args.self.now.host.now) c.args.self.now.rule.number c.args.self.now.device in
    settled_then M b (view c.args.lanes.now) (view c.loop-receiver.lanes) _ _ _ (c.loop-receiver.invariant M routed) (c.by_task_for.ensures M routed)
    ∙ ap (settled M b (view c.args.lanes.now)) (joined_one f c.loop-receiver.receiver)
