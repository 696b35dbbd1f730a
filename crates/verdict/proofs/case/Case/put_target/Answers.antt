-- Each turn puts the flow from one source, if it leaks, after those before it.
use Rattle.std.proofs.Common.{◌≡◌, ℕ, ap, ◌∙◌, arith}
use Rattle.meaning.specs.Flow.{Flow}
use Rattle.meaning.specs.FlowList.{flow}
use Rattle.levels.specs.Scales.{scaled}
use Rattle.book.specs.Means.{means}
use Rattle.verdict.specs.Kinds.{number}
use Rattle.verdict.specs.Rows.{leaks}
use Rattle.verdict.proofs.Putting.{put_none, put_both, put_same, put_at}
use Rattle.verdict.proofs.Blocks.{kept_one, kept_no}
use Rattle.verdict.proofs.case.Case.put_target.Goals as goal
use Rattle.verdict.proofs.case.Case.put_target.Goals.{then-leaks, else-leaks}

pub loop-source-init : goal.loop-source-init
loop-source-init c = (put_none _, omega arith)

pub loop-source-preserved : goal.loop-source-preserved
loop-source-preserved c =
    let case = c.args.self.now in
    let row = c.args.row in
    let to : ℕ → Flow = flow row.rule row.part (number row.kind) c.args.target in
    let test = leaks (scaled case.scale.now) (means case.book.now) c.args.sources in
    let k = c.loop-source.source in
    let told : test (to k) ≡ c.leaks.result = cc in
    elim c.if-leaks.branch [
      | then-leaks w ↦ (put_at w.buffer-is (put_same (kept_one test to k (told ∙ w.if-leaks.true)) (put_both c.loop-source.invariant.0 w.put.ensures)), omega (arith, w.put.ensures.put.ends, ap (λ b. b.at) w.buffer-is))
      | else-leaks w ↦ (put_at w.buffer-is (put_same (kept_no test to k (told ∙ w.if-leaks.false)) c.loop-source.invariant.0), omega (arith, ap (λ b. b.at) w.buffer-is))
    ]
