-- A clause is one row, in which what it reads is both sources and targets.
use Rattle.std.proofs.Common.{ap, ◌∙◌}
use Rattle.meaning.specs.Expression.{decoded, reads}
use Rattle.levels.specs.Scales.{scaled}
use Rattle.book.specs.Means.{code_of, clause_means, means}
use Rattle.verdict.proofs.Forbidding.{clause_row}
use Rattle.verdict.proofs.Putting.{put_same}
use Rattle.verdict.proofs.listing.put_clause.Goals as goal

pub returns-clause-put : goal.returns-clause-put
returns-clause-put c =
    let clause = c.args.clause.now in
    let b = means clause.of.book.now in
    let read = c.reads-set.ensures ∙ ap (λ bs. reads 0 (decoded bs)) c.test.ensures in
    put_same (clause_row (scaled c.args.scale.now) b clause.number (clause_means (code_of clause.of.book.now) clause.of.clause.now) c.reads-set.result clause.counted.inside clause.counted.is clause.of.right.few read) c.put_row.ensures.put
