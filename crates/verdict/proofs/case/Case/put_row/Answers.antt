-- Each turn puts the flows to one target, if it is in the set, after those before it.
use Rattle.std.proofs.Common.{ℕ, get_or, ap, arith}
use Rattle.std.proofs.lemmas.Bool.{eq-eqb, ne_eqb}
use Rattle.meaning.specs.FlowList.{to_target}
use Rattle.levels.specs.Scales.{scaled}
use Rattle.book.specs.Means.{means}
use Rattle.verdict.specs.Kinds.{number}
use Rattle.verdict.specs.Rows.{in_row}
use Rattle.verdict.proofs.Putting.{put_none, put_same, put_at, put_next}
use Rattle.verdict.proofs.Blocks.{row_in, row_out}
use Rattle.verdict.proofs.case.Case.put_row.Goals as goal
use Rattle.verdict.proofs.case.Case.put_row.Goals.{then-targets-target-eq1, else-targets-target-eq1}

pub loop-target-init : goal.loop-target-init
loop-target-init c = (put_none _, omega arith)

pub loop-target-preserved : goal.loop-target-preserved
loop-target-preserved c =
    let o = scaled c.args.self.now.scale.now in
    let b = means c.args.self.now.book.now in
    let sources : ℕ → ℕ = λ t. get_or c.args.sources.now t 0 in
    let row = c.args.row in
    let k = c.loop-target.target in
    let test = in_row o b c.args.targets sources in
    let blocks = to_target b row.rule row.part (number row.kind) in
    elim c.if-targets-target-eq1.branch [
      | then-targets-target-eq1 w ↦
          let block = row_in o b c.args.targets sources row.rule row.part (number row.kind) k (eq-eqb _ _ w.if-targets-target-eq1.true) in
          (put_at w.buffer-is (put_next test blocks k c.loop-target.invariant.0 (put_same block w.put_target.ensures.put)), omega (arith, w.put_target.ensures.bound, ap (λ b. b.at) w.buffer-is))
      | else-targets-target-eq1 w ↦
          let block = row_out o b c.args.targets sources row.rule row.part (number row.kind) k (ne_eqb _ _ w.if-targets-target-eq1.false) in
          (put_at w.buffer-is (put_next test blocks k c.loop-target.invariant.0 (put_same block (put_none _))), omega (arith, ap (λ b. b.at) w.buffer-is))
    ]
