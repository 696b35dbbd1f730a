use Rattle.std.proofs.Common.{◌≡◌}
use Rattle.std.specs.List.{range_with_len, flat_map}
use Rattle.book.specs.Means.{means}
use Rattle.lanes.specs.View.{view}
use Rattle.meaning.specs.Levels.{Meets}
use Rattle.runs.specs.Discovery.{settled}
use Rattle.discovery.specs.Forming.{by_task_for}
use Rattle.discovery.specs.Plans.{Routed}
use Rattle.discovery.proofs.firing.Firing.by_remote_task.Given as goal

-- the receivers so far have their updates
abbrev pub invariant-loop-receiver : goal.invariant-loop-receiver
invariant-loop-receiver g l =
    (M : Meets) → Routed M (means l.self.rule.of.book.now) l.self.rule.number l.self.route → view l.lanes ≡ settled M (means l.self.rule.of.book.now) (view l.fn.lanes) (flat_map (by_task_for (means l.self.rule.of.book.now) (g.H.Host.table l.self.host.now) l.self.rule.number l.self.device) (range_with_len 0 l.receiver))
