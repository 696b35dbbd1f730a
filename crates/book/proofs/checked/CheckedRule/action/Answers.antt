use Rattle.std.proofs.Common.{sym, subst}
use Rattle.book.specs.Rights.{RightAction}
use Rattle.book.proofs.Rightness.{action_right}
use Rattle.book.proofs.checked.CheckedRule.action.Goals as goal

pub invariant_of-result : goal.invariant_of-result
invariant_of-result c =
    let rule = c.args.self.now in
    record { right = subst (RightAction rule.book.now) (sym c.action.ensures) (action_right rule.book.now rule.rule.now rule.right c.args.part) }
