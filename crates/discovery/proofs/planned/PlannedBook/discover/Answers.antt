-- Each turn has one rule, and what the rules form together is what the change forms.
use Rattle.std.proofs.Common.{◌≡◌, ◌<◌, length, take, sym, ap, ◌∙◌, arith}
use Rattle.std.specs.List.{range_with_len, flat_map}
use Rattle.book.specs.Means.{code_of, rule_means, means}
use Rattle.lanes.specs.View.{view}
use Rattle.lanes.proofs.Views.{view_bounded}
use Rattle.runs.specs.Discovery.{settled}
use Rattle.verdict.proofs.Blocks.{joined_one}
use Rattle.book.proofs.Numbering.{same_length, rule_at}
use Rattle.discovery.specs.Forming.{by_rule}
use Rattle.discovery.proofs.Formed.{by_rules}
use Rattle.discovery.proofs.Settling.{settled_none, settled_then}
use Rattle.discovery.proofs.planned.PlannedBook.discover.Goals as goal

pub loop-number-init : goal.loop-number-init
loop-number-init g c M planned =
    settled_none M (means c.args.self.now.book.now) (view c.args.lanes.now) (λ n. (view_bounded c.args.lanes.now n).few_lost)

pub invariant_of-of : goal.invariant_of-of
invariant_of-of g c =
    let of = c.args.self.now in
    record { right = (rule_at of.book.now of.formed c.loop-number.number _ c.used_rules-rule-items.ensures _ c.loop-number-test.true).0 }

pub invariant_of-firing : goal.invariant_of-firing
invariant_of-firing g c =
    let of = c.args.self.now in
    record { formed = of.formed; numbered = (rule_at of.book.now of.formed c.loop-number.number _ c.used_rules-rule-items.ensures _ c.loop-number-test.true).1 }

pub loop-number-preserved : goal.loop-number-preserved
loop-number-preserved g c M planned =
    let of = c.args.self.now in
    let b = means of.book.now in
    let k = c.loop-number.number in
    let f = by_rule b (g.H.Host.table c.args.host.now) c.args.device c.args.changed in
    let inside : k < length b.rules = omega (arith, same_length (rule_means (code_of of.book.now)) (take of.book.now.rule_count of.book.now.rules) _ c.used_rules-rule-items.ensures, c.loop-number-test.true) in
    settled_then M b (view c.args.lanes.now) (view c.loop-number.lanes) _ _ _ (c.loop-number.invariant M planned) (c.by_rule.ensures M (planned k inside)) ∙ ap (settled M b (view c.args.lanes.now)) (joined_one f k)

pub returns : goal.returns
returns g c M planned =
    let b = means c.args.self.now.book.now in
    let T = g.H.Host.table c.args.host.now in
    let f = by_rule b T c.args.device c.args.changed in
    let all : c.loop-number.number ≡ length b.rules = omega (arith, same_length (rule_means (code_of c.args.self.now.book.now)) (take c.args.self.now.book.now.rule_count c.args.self.now.book.now.rules) _ c.used_rules-rule-items.ensures, c.loop-number-test.false) in
    c.loop-number.invariant M planned ∙ ap (λ n. settled M b (view c.args.lanes.now) (flat_map f (range_with_len 0 n))) all ∙ sym (ap (settled M b (view c.args.lanes.now)) (by_rules b T c.args.device c.args.changed))
