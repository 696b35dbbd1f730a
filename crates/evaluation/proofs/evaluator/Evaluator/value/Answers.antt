-- Each instruction alters the stack as the definition says, and the last value is the result.
use Rattle.std.proofs.Common.{◌∙◌, w32}
use Rattle.std.proofs.lemmas.Int.{to_z-of_z}
use Rattle.evaluation.proofs.Running.{few, goes_on, ends}
use Rattle.evaluation.proofs.evaluator.Evaluator.value.Goals as goal

pub step-requires : goal.step-requires
step-requires g c = few c.in-Some.ensures.steps c.loop-instruction.invariant

pub loop-instruction-preserved : goal.loop-instruction-preserved
loop-instruction-preserved g c =
    goes_on c.in-Some.ensures.steps c.loop-instruction.invariant c.step.ensures

pub returns : goal.returns
returns g c =
    to_z-of_z w32 c.below_top.result (record { sfits = c.below_top.type_inv }) ∙ ends c.below_top.ensures c.in-None.ensures.steps.0 c.loop-instruction.invariant
