use Rattle.std.proofs.Common.{◌≡◌, rules, ◌∷◌}
use Rattle.meaning.specs.Expression.{decoded}
use Rattle.book.proofs.Walk.{spells_first}
use Rattle.book.proofs.instructions.InstructionsIterator.next.Goals as goal

pub returns-clause-steps : goal.returns-clause-steps
returns-clause-steps c = spells_first _ _ _ c.in_ok-instruction.ensures

pub returns-clause-goes : goal.returns-clause-goes
returns-clause-goes c =
    let steps : decoded c.args.self.now.code.now ≡ c.in_ok-instruction.instruction ∷ decoded c.in_ok-instruction.rest.now = spells_first _ _ _ c.in_ok-instruction.ensures in
    search rules
