use Rattle.std.proofs.Common.{sym, subst}
use Rattle.book.specs.Rights.{RightCode}
use Rattle.book.proofs.Rightness.{test_right}
use Rattle.book.proofs.checked.CheckedClause.test.Goals as goal

pub invariant_of-result : goal.invariant_of-result
invariant_of-result c =
    let clause = c.args.self.now in
    record { right = subst RightCode (sym c.code_of.ensures) (test_right clause.book.now clause.clause.now clause.right) }
