-- The rule means the one that the definition finds at its place, and its resources are small, as those of each that was checked.
use Rattle.std.proofs.Common.{◌≡◌, ◌+◌, ◌*◌, sym, ap, ◌∙◌, subst, arith, rules}
use Rattle.meaning.specs.Book as meant
use Rattle.meaning.specs.Bytes.{two_at}
use Rattle.meaning.specs.Checks.{through}
use Rattle.meaning.specs.Layout.{rules_from, code_from}
use Rattle.meaning.specs.Parsed.{rule_at}
use Rattle.meaning.specs.Reading.{carrier_checked, rule_cells_checked}
use Rattle.book.specs.Means.{rule_means}
use Rattle.book.specs.Plan.{plan, code_in}
use Rattle.book.specs.Small.{SmallRule}
use Rattle.book.specs.Spelling.{rule_spelt}
use Rattle.book.proofs.Filled.{spelt_rule}
use Rattle.book.proofs.Outcome.{few_slots, inside}
use Rattle.book.proofs.Smallness.{rules_small}
use Rattle.book.proofs.file.Parsed.rule.Goals as goal
use Rattle.book.proofs.file.Parsed.rule.Goals.{After-spelt_at-rule}

means : (c : After-spelt_at-rule) → let file = c.args.self.now.file in rule_means (code_in file.bytes.now file.layout) c.spelt_at-rule.result ≡ rule_at file.bytes.now (code_from (plan file.layout)) (rules_from (plan file.layout) + 53 * c.args.i)
means c =
    let file = c.args.self.now.file in
    let few = few_slots file.framed c.args.self.now.fields c.args.i c.requires in
    ap (rule_means (code_in file.bytes.now file.layout)) (c.spelt_at-rule.ensures ∙ ap (rule_spelt file.bytes.now) c.rule_from.ensures) ∙ spelt_rule file.bytes.now (code_from (plan file.layout)) (rules_from (plan file.layout) + 53 * c.args.i) few.0 few.1

pub needs-needed-requires : goal.needs-needed-requires
needs-needed-requires c =
    let parsed = c.args.self.now in
    let file = parsed.file in
    subst SmallRule (sym (means (goal.at.needs-needed-requires c).After-spelt_at-rule)) (rules_small file.bytes.now (plan file.layout) file.fits (inside file.framed) (omega arith) parsed.fields parsed.expressions c.args.i c.requires)

pub returns : goal.returns
unfolding rule_cells_checked
returns c =
    let file = c.args.self.now.file in
    let carriers = ap (λ rule. rule.carriers) c.spelt_at-rule.ensures ∙ ap (two_at file.bytes.now) c.rule_from.ensures in
    let needed = c.needs-needed.ensures ∙ ap meant.needs (means (goal.at.returns c).After-spelt_at-rule) in
    c.through.ensures (carrier_checked file.bytes.now (plan file.layout) c.args.i c.spelt_at-rule.result.carriers c.needs-needed.result) (λ d s r h p. search rules)
    ∙ (λ k. through (carrier_checked file.bytes.now (plan file.layout) c.args.i (carriers k) (needed k)) file.layout.devices 0 tt)
