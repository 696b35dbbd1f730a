-- The default part, then the task part.
use Rattle.meaning.specs.Flow.{forbidden}
use Rattle.meaning.specs.FlowList.{of_part}
use Rattle.levels.specs.Scales.{scaled}
use Rattle.book.specs.Means.{means}
use Rattle.verdict.proofs.Putting.{put_none, put_first}
use Rattle.verdict.proofs.listing.put_rule.Goals as goal

pub returns-clause-put : goal.returns-clause-put
returns-clause-put c =
    let b = means c.args.rule.now.of.book.now in
    let test = forbidden (scaled c.args.scale.now) b in
    let parts = of_part b c.args.rule.now.number in
    put_first test parts 0 1 c.put_part.ensures.put (put_first test parts 1 0 c.put_part-2.ensures.put (put_none _))
