use Rattle.std.proofs.Common.{◌≡◌}
use Rattle.std.specs.List.{range_with_len, flat_map}
use Rattle.book.specs.Means.{means}
use Rattle.lanes.specs.View.{view}
use Rattle.meaning.specs.Levels.{Meets}
use Rattle.runs.specs.Discovery.{settled}
use Rattle.discovery.specs.Forming.{by_rule}
use Rattle.discovery.specs.Plans.{Planned}
use Rattle.discovery.proofs.planned.PlannedBook.discover.Given as goal

-- the rules so far have formed their updates
abbrev pub invariant-loop-number : goal.invariant-loop-number
invariant-loop-number g l =
    (M : Meets) → Planned M (means l.self.book.now) l.self.plan.now → view l.lanes ≡ settled M (means l.self.book.now) (view l.fn.lanes) (flat_map (by_rule (means l.self.book.now) (g.H.Host.table l.host) l.device l.changed) (range_with_len 0 l.number))
