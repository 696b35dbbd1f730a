-- Where there are targets, the greatest level at or below them is their meet.
use Rattle.std.proofs.Common.{◌≡◌, ◌<◌, sym, ap, ◌∙◌, subst, arith}
use Rattle.std.specs.List.{AllByRecursion as All}
use Rattle.levels.specs.Scales.{scaled, scaled_meets}
use Rattle.book.specs.declared.book.Book.{Book}
use Rattle.book.specs.declared.rule.Action.{Action}
use Rattle.book.specs.Means.{code_of, action_means, means}
use Rattle.book.specs.Rights.{RightAction}
use Rattle.meaning.specs.Book.{resources}
use Rattle.meaning.specs.Flow.{level, set_by}
use Rattle.runs.specs.Update.{level_of}
use Rattle.runs.proofs.Sources.{Slotted, slotted}
use Rattle.discovery.specs.Plans.{Comparable, Greatest}
use Rattle.discovery.proofs.Meets.{targets_comparable, lane_is, lane_inside, no_slots, some_slots}
use Rattle.discovery.proofs.accepted.AcceptedBook.lane.Goals as goal
use Rattle.discovery.proofs.accepted.AcceptedBook.lane.Goals.{After-meet_of}

slots : (b c : Book) (a : Action) → c ≡ b → RightAction c a → All (Slotted (resources (means b))) (action_means (code_of b) a)
slots b c a same right = slotted _ _ (subst (λ x. RightAction x a) same right).right

pub returns-then-set-eq0 : goal.returns-then-set-eq0
returns-then-set-eq0 c =
    let of = c.args.self.now in
    let ss = action_means (code_of of.book.now) c.args.action.now.action.now in
    let set = c.targets-set.ensures ∙ ap (λ b. set_by 0 (action_means (code_of b) c.args.action.now.action.now)) c.requires in
    record { small = omega arith; level = sym (ap (level_of (scaled_meets of.scale.now) (means of.book.now)) (no_slots ss (sym set ∙ c.if-set-eq0.true))) }

pub meet_of-requires : goal.meet_of-requires
meet_of-requires c =
    let of = c.args.self.now in
    let b = of.book.now in
    let o = scaled of.scale.now in
    let M = scaled_meets of.scale.now in
    let set = c.targets-set.ensures ∙ ap (λ x. set_by 0 (action_means (code_of x) c.args.action.now.action.now)) c.requires in
    record {
      some = omega arith;
      comparable = subst (Comparable o M (level (means b))) (sym set) (targets_comparable o M (means b) of.accepted _ (slots b _ c.args.action.now.action.now c.requires c.args.action.now.right));
    }

-- the result is a lane and the meet of the targets' levels
met : (c : After-meet_of) → (c.meet_of.result ≡ level_of (scaled_meets c.args.self.now.scale.now) (means c.args.self.now.book.now) (action_means (code_of c.args.self.now.book.now) c.args.action.now.action.now)) × (c.meet_of.result < 16)
met c =
    let of = c.args.self.now in
    let b = of.book.now in
    let o = scaled of.scale.now in
    let ss = action_means (code_of b) c.args.action.now.action.now in
    let set = c.targets-set.ensures ∙ ap (λ x. set_by 0 (action_means (code_of x) c.args.action.now.action.now)) c.requires in
    let some = some_slots ss (λ none. c.if-set-eq0.false (set ∙ none)) in
    let greatest = subst (λ m. Greatest o (level (means b)) m c.meet_of.result) set c.meet_of.ensures in (
      lane_is o (scaled_meets of.scale.now) (means b) of.accepted ss (slots b _ c.args.action.now.action.now c.requires c.args.action.now.right) some c.meet_of.result greatest,
      omega (arith, of.accepted.lawful.few, lane_inside o (means b) of.accepted.lawful ss some c.meet_of.result greatest),
    )

pub returns : goal.returns
returns c = let m = met (goal.at.returns c).After-meet_of in record { small = m.1; level = m.0 }
