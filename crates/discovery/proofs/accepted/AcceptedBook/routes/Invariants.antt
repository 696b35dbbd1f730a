use Rattle.std.proofs.Common.{◌≡◌, ℕ, ◌<◌, length, get_or}
use Rattle.levels.specs.Scales.{scaled_meets}
use Rattle.book.specs.Means.{means}
use Rattle.discovery.specs.Plans.{Routed, Laned, no_route}
use Rattle.discovery.proofs.accepted.AcceptedBook.routes.Given as goal

-- the rules so far have their routes
abbrev pub invariant-loop-number : goal.invariant-loop-number
invariant-loop-number l =
    (length l.routes ≡ 32) × ((i : ℕ) → i < l.number → Routed (scaled_meets l.self.scale.now) (means l.self.book.now) i (get_or l.routes i no_route) × Laned (get_or l.routes i no_route))
