-- An update that arrives at its lane has settled.
use Rattle.std.proofs.Common.{[], ◌∷◌, ap, ◌∙◌}
use Rattle.book.specs.Means.{means}
use Rattle.lanes.specs.View.{view}
use Rattle.lanes.proofs.Views.{view_bounded}
use Rattle.runs.specs.Lane.{accept, with_lane}
use Rattle.discovery.proofs.Settling.{settled_one}
use Rattle.discovery.proofs.Values.{routed_lane}
use Rattle.discovery.proofs.firing.Firing.form.Goals as goal

pub returns : goal.returns
returns g c M routed =
    let of = c.args.self.now in
    let b = means of.rule.of.book.now in
    let lanes = view c.args.lanes.now in
    let m = c.lane.result.number in
    let is = c.lane.ensures ∙ routed_lane M b of.rule.number of.route c.args.part routed in
    c.arrive.ensures ∙ ap (λ u. with_lane lanes m (accept (lanes m) (u ∷ []))) c.update.ensures ∙ settled_one M b lanes _ m (λ n. (view_bounded c.args.lanes.now n).few_lost) is
