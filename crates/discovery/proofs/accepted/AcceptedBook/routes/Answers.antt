-- Each turn finds the route of one rule.
use Rattle.std.proofs.Common.{◌<◌, sym, subst}
use Rattle.levels.specs.Scales.{scaled_meets}
use Rattle.book.specs.Means.{means}
use Rattle.book.proofs.Numbering.{rule_early, rule_at}
use Rattle.discovery.specs.Plans.{RouteOf, Routed, Laned, no_route}
use Rattle.discovery.proofs.Filling.{filled_more}
use Rattle.discovery.proofs.accepted.AcceptedBook.routes.Goals as goal

pub invariant_of-route : goal.invariant_of-route
invariant_of-route c =
    let of = c.args.self.now in
    record { right = (rule_at of.book.now of.accepted.formed c.loop-number.number _ c.used_rules-rule-items.ensures _ c.loop-number-test.true).0 }

pub loop-number-preserved : goal.loop-number-preserved
loop-number-preserved c =
    let of = c.args.self.now in
    let b = of.book.now in
    let M = scaled_meets of.scale.now in
    let at = (rule_at b of.accepted.formed c.loop-number.number _ c.used_rules-rule-items.ensures _ c.loop-number-test.true).1 in
    let few : c.loop-number.number < 32 = rule_early b of.accepted.formed c.loop-number.number _ c.used_rules-rule-items.ensures c.loop-number-test.true in
    filled_more (λ i x. Routed M (means b) i x × Laned x) c.loop-number.routes 32 c.loop-number.number no_route c.route.result c.loop-number.invariant.0 few (subst (λ r. RouteOf M (means b) r c.route.result) (sym at.is) c.route.ensures.route, c.route.ensures.lanes) c.loop-number.invariant.1
