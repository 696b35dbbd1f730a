use Rattle.std.proofs.Common.{◌≡◌, map, drop}
use Rattle.meaning.specs.Flow as meant
use Rattle.book.specs.Means.{code_of, clause_means, rule_means, means}
use Rattle.book.specs.Parts.{number}
use Rattle.verdict.proofs.landing.watched.Given as goal

abbrev pub invariant-loop-clause : goal.invariant-loop-clause
invariant-loop-clause l =
    let b = l.fn.rule.of.book.now in
    meant.watched (means b) (rule_means (code_of b) l.fn.rule.of.rule.now) (number l.part) l.all (map (clause_means (code_of b)) (drop l.clause-index l.clause-items)) ≡ meant.watched (means b) (rule_means (code_of b) l.fn.rule.of.rule.now) (number l.part) 0 (map (clause_means (code_of b)) l.clause-items)
