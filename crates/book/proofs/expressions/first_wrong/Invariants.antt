use Rattle.std.proofs.Common.{◌≡◌, ◌+◌, ◌≤◌, length}
use Rattle.meaning.specs.Expression.{wrong_after}
use Rattle.book.specs.Scopes.{scoped}
use Rattle.book.proofs.expressions.first_wrong.Given as goal

abbrev pub invariant-loop-instruction : goal.invariant-loop-instruction
invariant-loop-instruction l =
    (wrong_after (scoped l.scope) 0 l.at l.depth l.rest ≡ wrong_after (scoped l.scope) 0 0 0 l.code) × (l.at + length l.rest ≡ length l.code) × (l.depth ≤ 8)

abbrev pub decreases-loop-instruction : goal.decreases-loop-instruction
decreases-loop-instruction l = length l.rest
