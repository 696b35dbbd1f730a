-- The four rows of a part, each with the sources of its kind.
use Rattle.std.proofs.Common.{◌≤◌, get_or, sym, ap, ◌∙◌, arith}
use Rattle.meaning.specs.Book.{resources}
use Rattle.meaning.specs.Flow.{read_for, forbidden}
use Rattle.meaning.specs.FlowList.{of_kind}
use Rattle.levels.specs.Scales.{scaled}
use Rattle.book.specs.Means.{code_of, action_means, rule_means, means}
use Rattle.book.specs.Parts.{number}
use Rattle.book.proofs.Parts.{number_small, part_slots}
use Rattle.verdict.proofs.Forbidding.{PartOf, part_row, part_row_same}
use Rattle.verdict.proofs.Putting.{put_none, put_same, put_first}
use Rattle.verdict.proofs.listing.put_part.Goals as goal

pub returns : goal.returns
returns c =
    let o = scaled c.args.scale.now in
    let rule-of = c.args.rule.now in
    let of = rule-of.of in
    let b = means of.book.now in
    let code = code_of of.book.now in
    let rule = rule_means code of.rule.now in
    let p = number c.args.part in
    let sets = c.sets_of-sets.result in
    let meant = c.sets_of-sets.ensures in
    let few : resources b ≤ 32 = of.right.few in
    let part : PartOf b rule-of.number rule p c.number.result sets.targets = record { inside = rule-of.numbered.inside; rule = rule-of.numbered.is; few = number_small c.args.part; part = c.number.ensures; ends = meant.targets } in
    let events = part_row_same o b part 1 sets.events (omega arith) (omega arith) few (λ _. meant.events) in
    let condition = part_row_same o b part 2 sets.condition (omega arith) (omega arith) few (λ _. meant.condition) in
    let values = part_row o b part 3 (λ t. get_or c.values.result t 0) (omega arith) (omega arith) (λ t h. c.values.ensures t (omega arith) ∙ (λ i. read_for t 0 (action_means (code_of (c.action.ensures.book i)) (c.action.ensures.action i))) ∙ ap (read_for t 0) (sym (part_slots code of.rule.now c.args.part))) in
    let watched = part_row_same o b part 4 sets.watched (omega arith) (omega arith) few (λ _. meant.watched) in
    let test = forbidden o b in
    let kinds = of_kind b rule-of.number p in
    record {
      put = put_first test kinds 1 3 (put_same events c.put_row.ensures.put) (put_first test kinds 2 2 (put_same condition c.put_row-2.ensures.put) (put_first test kinds 3 1 (put_same values c.put_row-3.ensures.put) (put_first test kinds 4 0 (put_same watched c.put_row-4.ensures.put) (put_none _))));
      bound = omega (arith, c.put_row.ensures.bound, c.put_row-2.ensures.bound, c.put_row-3.ensures.bound, c.put_row-4.ensures.bound);
    }
