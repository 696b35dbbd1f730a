use Rattle.std.proofs.Common.{sym, subst}
use Rattle.book.specs.Rights.{RightCode}
use Rattle.book.proofs.Rightness.{condition_right}
use Rattle.book.proofs.checked.CheckedRule.condition.Goals as goal

pub invariant_of-result : goal.invariant_of-result
invariant_of-result c =
    let rule = c.args.self.now in
    record { right = subst RightCode (sym c.code_of.ensures) (condition_right rule.book.now rule.rule.now rule.right) }
