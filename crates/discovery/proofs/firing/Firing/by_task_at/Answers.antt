-- Where the condition fails nothing is formed.
use Rattle.std.proofs.Common.{sym, ap, ◌∙◌}
use Rattle.book.specs.Means.{means}
use Rattle.lanes.specs.View.{view}
use Rattle.lanes.proofs.Views.{view_bounded}
use Rattle.meaning.specs.Expression.{decoded, truth}
use Rattle.runs.specs.Table.{value_at}
use Rattle.discovery.proofs.Settling.{settled_unless}
use Rattle.discovery.proofs.firing.Firing.by_task_at.Goals as goal

pub returns-else-holds : goal.returns-else-holds
returns-else-holds g c M is =
    let T = g.H.Host.table c.args.self.now.host.now in
    let at = c.args.self.now.rule.numbered.is in
    let tested = c.if-holds.ensures ∙ (λ i. truth (value_at (c.none.ensures T i) (c.from.ensures i) (c.from-2.ensures i) (decoded (c.condition.ensures i)))) ∙ ap (λ r. truth (value_at T c.args.self.now.device c.args.receiver r.condition)) (sym at) in
    settled_unless M (means c.args.self.now.rule.of.book.now) _ (view c.args.lanes.now) _ (sym tested) (λ n. (view_bounded c.args.lanes.now n).few_lost)
