-- A draft that the verdict lets pass is sound, and the smallest book is so under every order.
use Rattle.std.proofs.Common.{◌≤◌, sym, ap, ◌∙◌, subst}
use Rattle.std.proofs.lemmas.Bool.{eq-eqb}
use Rattle.meaning.specs.Flow.{levelled}
use Rattle.meaning.specs.Levels.{Order}
use Rattle.levels.specs.Scales.{scaled}
use Rattle.book.specs.Means.{means}
use Rattle.verdict.specs.Verdicts.{is_sound}
use Rattle.verdict.proofs.Judged.{judged_empty, judged_levels, smallest_levelled, smallest_sound, not_refused}
use Rattle.verdict.proofs.judging.judge.Goals as goal
use Rattle.verdict.proofs.judging.judge.Goals.{then-is_err, else-is_err}

pub invariant_of-result : goal.invariant_of-result
invariant_of-result g c =
    let o = scaled c.written_out-scale.result in
    elim c.if-is_err.branch [
      | then-is_err w ↦
          let book = ap (λ d. means d.book) w.draft-is ∙ w.smallest-draft.ensures in
          let some = subst (λ (x : Order). 1 ≤ x.count) (sym c.written_out-scale.ensures.ranks) (g.met.O.Order.lawful c.args.order).some in
          record { levelled = ap (levelled o) book ∙ smallest_levelled o some; sound = ap (is_sound o) book ∙ smallest_sound o }
      | else-is_err w ↦
          let book = ap (λ d. means d.book) w.draft-is in
          let passes = sym c.verdict.ensures ∙ not_refused c.verdict.result (sym c.is_err.ensures.value ∙ w.if-is_err.false) in
          record { levelled = ap (levelled o) book ∙ judged_levels o _ passes; sound = ap (is_sound o) book ∙ eq-eqb _ 0 (judged_empty o _ passes) }
    ]
