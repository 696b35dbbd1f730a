use Rattle.std.proofs.Common.{◌≡◌, ℕ, ◌<◌, length, get_or, pos}
use Rattle.runs.specs.Table.{value_at}
use Rattle.book.specs.Means.{code_of, spanned}
use Rattle.discovery.proofs.Values.{no_slot}
use Rattle.discovery.proofs.firing.Firing.values.Given as goal

-- the assignments so far have their values
abbrev pub invariant-loop-place : goal.invariant-loop-place
invariant-loop-place g l =
    (length l.values ≡ 4) × ((k : ℕ) → k < l.place → get_or l.values k (pos 0) ≡ value_at (g.H.Host.table l.self.host.now) l.self.device l.receiver (spanned (code_of l.action.book.now) (get_or l.slot-items k no_slot).value))
