-- A local task stays, a remote one goes to others.
use Rattle.std.proofs.Common.{cond, not, sym, ap, ◌∙◌}
use Rattle.std.specs.List.{range_with_len, flat_map}
use Rattle.book.specs.declared.part.Part.TheVariants.{Task}
use Rattle.book.specs.Means.{is_remote, means}
use Rattle.lanes.specs.View.{view}
use Rattle.lanes.proofs.Views.{view_bounded}
use Rattle.meaning.specs.Book.{devices}
use Rattle.runs.specs.Discovery.{settled}
use Rattle.discovery.specs.Forming.{by_task_at, by_task_for}
use Rattle.discovery.proofs.Settling.{settled_when, settled_unless}
use Rattle.discovery.proofs.Values.{some_used}
use Rattle.discovery.proofs.firing.Firing.by_task.Goals as goal

pub returns-then-is_empty : goal.returns-then-is_empty
returns-then-is_empty g c M routed =
    let some = some_used c.args.self.now.rule.of.book.now c.args.self.now.rule.number c.args.self.now.rule.of.rule.now Task c.used.result.now c.args.self.now.rule.numbered c.used.ensures in
    settled_unless M (means c.args.self.now.rule.of.book.now) _ (view c.args.lanes.now) _ (some ∙ ap not (sym c.if-is_empty.ensures)) (λ n. (view_bounded c.args.lanes.now n).few_lost)

pub returns-in-Local : goal.returns-in-Local
returns-in-Local g c M routed =
    let b = means c.args.self.now.rule.of.book.now in
    let T = g.H.Host.table c.args.self.now.host.now in
    let some = some_used c.args.self.now.rule.of.book.now c.args.self.now.rule.number c.args.self.now.rule.of.rule.now Task c.used.result.now c.args.self.now.rule.numbered c.used.ensures in
    let local = ap (λ r. r.remote) c.args.self.now.rule.numbered.is ∙ ap is_remote c.in-Local.is in
    settled_when M b _ (view c.args.lanes.now) _ _ (some ∙ ap not (sym c.if-is_empty.ensures))
    (c.by_task_at.ensures M routed ∙ sym (ap (λ t. settled M b (view c.args.lanes.now) (cond t (flat_map (by_task_for b T c.args.self.now.rule.number c.args.self.now.device) (range_with_len 0 (devices b))) (by_task_at b T c.args.self.now.rule.number c.args.self.now.device c.args.self.now.device))) local))

pub returns-in-Remote : goal.returns-in-Remote
returns-in-Remote g c M routed =
    let b = means c.args.self.now.rule.of.book.now in
    let T = g.H.Host.table c.args.self.now.host.now in
    let some = some_used c.args.self.now.rule.of.book.now c.args.self.now.rule.number c.args.self.now.rule.of.rule.now Task c.used.result.now c.args.self.now.rule.numbered c.used.ensures in
    let remote = ap (λ r. r.remote) c.args.self.now.rule.numbered.is ∙ ap is_remote c.in-Remote.is in
    settled_when M b _ (view c.args.lanes.now) _ _ (some ∙ ap not (sym c.if-is_empty.ensures))
    (c.by_remote_task.ensures M routed ∙ sym (ap (λ t. settled M b (view c.args.lanes.now) (cond t (flat_map (by_task_for b T c.args.self.now.rule.number c.args.self.now.device) (range_with_len 0 (devices b))) (by_task_at b T c.args.self.now.rule.number c.args.self.now.device c.args.self.now.device))) remote))
