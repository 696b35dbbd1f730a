-- A part without targets forms nothing.
use Rattle.std.proofs.Common.{not, sym, ap, ◌∙◌}
use Rattle.book.specs.declared.part.Part.TheVariants.{Default}
use Rattle.book.specs.Means.{means}
use Rattle.lanes.specs.View.{view}
use Rattle.lanes.proofs.Views.{view_bounded}
use Rattle.discovery.proofs.Settling.{settled_unless}
use Rattle.discovery.proofs.Values.{some_used}
use Rattle.discovery.proofs.firing.Firing.by_default.Goals as goal

pub returns-else-not-is_empty : goal.returns-else-not-is_empty
returns-else-not-is_empty g c M is =
    let some = some_used c.args.self.now.rule.of.book.now c.args.self.now.rule.number c.args.self.now.rule.of.rule.now Default c.used.result.now c.args.self.now.rule.numbered c.used.ensures in
    settled_unless M (means c.args.self.now.rule.of.book.now) _ (view c.args.lanes.now) _ (some ∙ ap not (sym c.if-not-is_empty.ensures)) (λ n. (view_bounded c.args.lanes.now n).few_lost)
