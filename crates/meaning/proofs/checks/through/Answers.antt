-- Each turn makes one check of the row, and a `?` hands on the fault that the check answered.
use Rattle.std.proofs.Common.{◌∙◌, sym}
use Rattle.meaning.proofs.Rows.{begins, goes_on, refuses, ends, handed}
use Rattle.meaning.proofs.checks.through.Goals as goal

pub loop-i-init : goal.loop-i-init
loop-i-init g c f is = begins f _ _

pub loop-i-preserved : goal.loop-i-preserved
loop-i-preserved g c f is =
    goes_on f _ _ _ _ _ c.loop-i-test.true (sym (is _ _ _ c.loop-i-test.true c.in_ok-state.ensures)) (c.loop-i.invariant f is)

pub returns-in_err-state : goal.returns-in_err-state
returns-in_err-state g c f is =
    handed c.from_residual.result c.from_residual.ensures.1 ∙ refuses f _ _ _ _ _ c.loop-i-test.true (sym (is _ _ _ c.loop-i-test.true c.in_err-state.ensures)) (c.loop-i.invariant f is)

pub returns : goal.returns
returns g c f is = ends f _ _ _ _ c.loop-i-test.false (c.loop-i.invariant f is)
