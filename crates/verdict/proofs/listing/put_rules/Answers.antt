-- Each turn puts the flows of one rule after those before it.
use Rattle.std.proofs.Common.{arith}
use Rattle.meaning.specs.Flow.{forbidden}
use Rattle.meaning.specs.FlowList.{of_rule}
use Rattle.levels.specs.Scales.{scaled}
use Rattle.book.specs.Means.{means}
use Rattle.book.proofs.Numbering.{rule_at}
use Rattle.verdict.proofs.Putting.{put_none, put_next}
use Rattle.verdict.proofs.listing.put_rules.Goals as goal

pub loop-number-init : goal.loop-number-init
loop-number-init c = (put_none _, omega arith)

pub invariant_of-of : goal.invariant_of-of
invariant_of-of c =
    let at = rule_at c.args.book.now.book.now c.args.book.now.formed c.loop-number.number _ c.used_rules-rule-items.ensures _ c.loop-number-test.true in
    record { right = at.0 }

pub loop-number-preserved : goal.loop-number-preserved
loop-number-preserved c =
    let b = means c.args.book.now.book.now in
    (put_next (forbidden (scaled c.args.scale.now) b) (of_rule b) c.loop-number.number c.loop-number.invariant.0 c.put_rule.ensures.put, omega (arith, c.put_rule.ensures.bound))
