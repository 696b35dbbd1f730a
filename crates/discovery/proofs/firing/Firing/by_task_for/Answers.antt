-- Where the task does not reach nothing is formed.
use Rattle.std.proofs.Common.{not, ◌&&◌, eqb, sym, ap, ◌∙◌}
use Rattle.book.specs.Means.{means}
use Rattle.lanes.specs.View.{view}
use Rattle.lanes.proofs.Views.{view_bounded}
use Rattle.meaning.specs.Flow.{lands}
use Rattle.discovery.proofs.Settling.{settled_unless}
use Rattle.discovery.proofs.firing.Firing.by_task_for.Goals as goal

pub returns-else-reaches : goal.returns-else-reaches
returns-else-reaches g c M routed =
    let b = means c.args.self.now.rule.of.book.now in
    let d = c.args.self.now.device in
    let e = c.args.receiver in
    let tested = ap (λ r. not (eqb e d) && lands b r 1 e) c.args.self.now.rule.numbered.is ∙ sym c.if-reaches.ensures in
    settled_unless M b _ (view c.args.lanes.now) _ tested (λ n. (view_bounded c.args.lanes.now n).few_lost)
