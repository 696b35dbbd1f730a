use Rattle.std.proofs.Common.{◌+◌, ◌*◌, rules}
use Rattle.meaning.specs.Layout.{rules_from}
use Rattle.meaning.specs.Reading.{rule_expressions_checked}
use Rattle.book.specs.Plan.{plan}
use Rattle.book.proofs.file.File.expressions_of_rules.Goals as goal

pub returns : goal.returns
returns c =
    let file = c.args.self.now in
    c.through.ensures (λ i _. rule_expressions_checked file.bytes.now (plan file.layout) (rules_from (plan file.layout) + 53 * i)) (λ i s r h p. search rules)
