-- The default part settles first, and then the task.
use Rattle.std.proofs.Common.{◌&&◌, sym, ap, ◌∙◌}
use Rattle.book.specs.Means.{means}
use Rattle.lanes.specs.View.{view}
use Rattle.lanes.proofs.Views.{view_bounded}
use Rattle.meaning.specs.Flow.{share}
use Rattle.meaning.specs.Sets.{has}
use Rattle.discovery.specs.Forming.{by_rule}
use Rattle.discovery.proofs.Settling.{settled_then, settled_when, settled_unless}
use Rattle.discovery.proofs.firing.Firing.by_rule.Goals as goal

pub returns-then-is_fired : goal.returns-then-is_fired
unfolding by_rule
returns-then-is_fired g c M routed =
    let b = means c.args.self.now.rule.of.book.now in
    let tested = ap (λ r. has r.carriers c.args.self.now.device && share r.events c.args.changed) c.args.self.now.rule.numbered.is ∙ sym c.if-is_fired.ensures in
    settled_when M b _ (view c.args.lanes.now) _ _ tested
    (settled_then M b (view c.args.lanes.now) (view c.by_default.new.lanes) _ _ _ (c.by_default.ensures M routed) (c.by_task.ensures M routed))

pub returns-else-is_fired : goal.returns-else-is_fired
unfolding by_rule
returns-else-is_fired g c M routed =
    let b = means c.args.self.now.rule.of.book.now in
    let tested = ap (λ r. has r.carriers c.args.self.now.device && share r.events c.args.changed) c.args.self.now.rule.numbered.is ∙ sym c.if-is_fired.ensures in
    settled_unless M b _ (view c.args.lanes.now) _ tested (λ n. (view_bounded c.args.lanes.now n).few_lost)
