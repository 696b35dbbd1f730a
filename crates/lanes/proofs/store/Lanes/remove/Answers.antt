-- The others move up by one place, and so the line is without its head.
use Rattle.std.proofs.Common.{◌+◌, ◌-◌, ◌*◌, false, map, sym, ap, ◌∙◌, arith}
use Rattle.std.proofs.lemmas.List.{get_or_default, drop-map}
use Rattle.lanes.specs.Updates.{update_means}
use Rattle.lanes.specs.View.{line, idle, state_at, view}
use Rattle.lanes.proofs.Stretches.{Written, line_other, line_rotated}
use Rattle.lanes.proofs.Views.{lane_changed}
use Rattle.lanes.proofs.store.Lanes.remove.Goals as goal

pub returns : goal.returns
unfolding view
returns c =
    let l = c.args.self.now in
    let m = c.args.lane.number in
    let s = state_at l m in
    let same = get_or_default l.states m c.index-self-lane.result idle (omega arith) in
    let write : Written l.store c.drop_head.new.stretch m (16 * m + 16 - 16 * m) = record { full = omega arith; inside = omega arith; long = omega arith } in
    let less = c.saturating_sub-state.ensures ∙ ap (λ t. t.waiting - 1) same in
    let left = line_rotated write s.waiting _ s.short less c.drop_head.ensures in
    let waits = ap (map update_means) left ∙ sym (drop-map update_means 1 (line l.store m s.waiting)) in
    lane_changed l _ m _ _ (omega arith) (line_other write)
    (λ i. record { waiting = waits i; lost = (same i).lost; out = false })
