-- The scale compares as the order does, so the verdict is the order's.
use Rattle.std.proofs.Common.{ap, ◌∙◌}
use Rattle.book.specs.Means.{means}
use Rattle.verdict.specs.Verdicts.{judged}
use Rattle.verdict.proofs.Judged.{judgement}
use Rattle.verdict.proofs.judging.may_judge.Goals as goal

pub returns : goal.returns
returns g c =
    judgement _ (means c.args.draft.now.book) c.verdict.result c.args.draft.now.right.1.0 (c.verdict.ensures ∙ ap (λ o. judged o (means c.args.draft.now.book)) c.written_out.ensures.ranks)
