use Rattle.std.proofs.Common.{◌≡◌, ℕ, ◌<◌, length, get_or}
use Rattle.book.specs.Means.{means}
use Rattle.meaning.specs.Expression.{reads}
use Rattle.runs.specs.Clauses.{clause_at}
use Rattle.discovery.proofs.planning.clause_reads.Given as goal

-- the clauses so far have what they read
abbrev pub invariant-loop-number : goal.invariant-loop-number
invariant-loop-number l =
    (length l.sets ≡ 32) × ((j : ℕ) → j < l.number → get_or l.sets j 0 ≡ reads 0 (clause_at (means l.book) j).test)
