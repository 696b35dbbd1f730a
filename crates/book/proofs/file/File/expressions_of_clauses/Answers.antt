use Rattle.std.proofs.Common.{◌+◌, ◌*◌, false, rules}
use Rattle.meaning.specs.Layout.{clauses_from}
use Rattle.meaning.specs.Reading.{expression_checked}
use Rattle.book.specs.Plan.{plan}
use Rattle.book.proofs.file.File.expressions_of_clauses.Goals as goal

pub returns : goal.returns
returns c =
    let file = c.args.self.now in
    c.through.ensures (λ i _. expression_checked file.bytes.now (plan file.layout) false (clauses_from (plan file.layout) + 5 * i + 1)) (λ i s r h p. search rules)
