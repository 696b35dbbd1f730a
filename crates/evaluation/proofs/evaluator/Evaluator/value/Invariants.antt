use Rattle.meaning.specs.Expression.{decoded}
use Rattle.runs.specs.Table.{cell}
use Rattle.evaluation.specs.Shown.{shown}
use Rattle.evaluation.proofs.Running.{Run}
use Rattle.evaluation.proofs.evaluator.Evaluator.value.Given as goal

abbrev pub invariant-loop-instruction : goal.invariant-loop-instruction
invariant-loop-instruction g l =
    let T = shown g.H.Host.table l.self.preview in
    Run (cell T l.self.own) (cell T l.self.receiver) (decoded l.code) l.stack (decoded l.instruction-iterator.code.now)
