-- A full lane counts one more as lost, and another takes the update at the place behind those that wait.
use Rattle.std.proofs.Common.{◌+◌, ◌-◌, ◌*◌, ◌<◌, min, map, take, drop, set, sym, refl, ap, ◌∙◌, arith}
use Rattle.std.proofs.lemmas.List.{get_or_default, map_push}
use Rattle.lanes.specs.Updates.{update_means}
use Rattle.lanes.specs.View.{line, idle, state_at, view}
use Rattle.lanes.proofs.Accepting.{accept_one, accept_past}
use Rattle.lanes.proofs.Stretches.{Written, line_other, line_put}
use Rattle.lanes.proofs.Views.{view_long, lane_changed}
use Rattle.runs.specs.Lane.{most_lost}
use Rattle.lanes.proofs.store.Lanes.arrive.Goals as goal

pub returns-then-waiting-eq-LANE_LENGTH : goal.returns-then-waiting-eq-LANE_LENGTH
unfolding view
returns-then-waiting-eq-LANE_LENGTH c =
    let l = c.args.self.now in
    let m = c.args.lane.number in
    let same = get_or_default l.states m c.index-self-lane.result idle (omega arith) in
    let waits = ap (λ t. t.waiting) same in
    let losses = c.one_more-state.ensures ∙ ap (λ t. min most_lost (t.lost + 1)) same in
    lane_changed l l.store m _ _ (omega arith) (λ n j few other. refl)
    ((λ i. record { waiting = map update_means (line l.store m (same i).waiting); lost = losses i; out = (same i).out })
    ∙ sym (accept_past (view l m) (update_means c.args.update) (omega (arith, view_long l m (omega arith)))))

pub returns-else-waiting-eq-LANE_LENGTH : goal.returns-else-waiting-eq-LANE_LENGTH
unfolding view
returns-else-waiting-eq-LANE_LENGTH c =
    let l = c.args.self.now in
    let m = c.args.lane.number in
    let u = c.args.update in
    let s = state_at l m in
    let same = get_or_default l.states m c.index-self-lane.result idle (omega arith) in
    let waits = ap (λ t. t.waiting) same in
    let some : s.waiting < 16 = omega (arith, s.short) in
    let k = 16 * m + 16 - 16 * m in
    let write : Written l.store c.put.new.stretch m k = record { full = omega arith; inside = omega arith; long = omega arith } in
    let is = c.put.ensures ∙ ap (λ n. set (take k (drop (16 * m) l.store)) n u) (c.from-waiting.ensures ∙ waits) in
    let more = ap (map update_means) (line_put write s.waiting _ u some (ap (λ t. t.waiting + 1) same) is) ∙ map_push update_means (line l.store m s.waiting) u in
    lane_changed l _ m _ _ (omega arith) (line_other write)
    ((λ i. record { waiting = more i; lost = (same i).lost; out = (same i).out })
    ∙ sym (accept_one (view l m) (update_means u) (omega (arith, view_long l m (omega arith))) s.counted))
