use Rattle.std.proofs.Common.{◌≡◌, ◌-◌, length}
use Rattle.book.specs.Means.{means}
use Rattle.evaluation.specs.Posted.{posted}
use Rattle.runs.specs.Clauses.{concerns, failing, first_where}
use Rattle.discovery.proofs.Firsts.{fails}
use Rattle.discovery.proofs.planned.PlannedBook.failing.Given as goal

-- what is left finds what the whole does
abbrev pub invariant-loop-number : goal.invariant-loop-number
invariant-loop-number g l =
    first_where (fails (means l.self.book.now) (posted l.preview.changes.now (g.H.Host.table l.preview.host.now)) (concerns l.device l.set)) l.number (length (means l.self.book.now).clauses - l.number) ≡ failing (means l.self.book.now) (posted l.preview.changes.now (g.H.Host.table l.preview.host.now)) (concerns l.device l.set)
