-- The lines stay, and the mark of one lane alone is another.
use Rattle.std.proofs.Common.{map, refl, arith}
use Rattle.std.proofs.lemmas.List.{get_or_default}
use Rattle.lanes.specs.Updates.{update_means}
use Rattle.lanes.specs.View.{line, idle, view}
use Rattle.lanes.proofs.Views.{lane_changed}
use Rattle.lanes.proofs.store.Lanes.mark.Goals as goal

pub returns : goal.returns
unfolding view
returns c =
    let l = c.args.self.now in
    let m = c.args.lane.number in
    let same = get_or_default l.states m c.index-self-lane.result idle (omega arith) in
    lane_changed l l.store m _ _ (omega arith) (λ n j few other. refl)
    (λ i. record { waiting = map update_means (line l.store m (same i).waiting); lost = (same i).lost; out = c.args.out })
