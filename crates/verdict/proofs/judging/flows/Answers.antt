-- The list is that of the order, since the scale is, and of the draft's book.
use Rattle.std.proofs.Common.{◌≡◌, ℕ, ◌*◌, List, length, Ok, Err, Result, sym, ap, subst, arith}
use Rattle.fault.specs.declared.fault.CallCause.TheVariants.{Buffer}
use Rattle.fault.specs.declared.fault.Layer.TheVariants.{Call}
use Rattle.fault.specs.declared.fault.Fault.{Fault}
use Rattle.meaning.specs.FlowList.{flow_list}
use Rattle.meaning.specs.Levels.{Order}
use Rattle.levels.specs.Scales.{scaled}
use Rattle.book.specs.declared.book.Book.{Book}
use Rattle.book.specs.Means.{means}
use Rattle.meaning.proofs.Rows.{handed}
use Rattle.verdict.specs.Verdicts.{Listing}
use Rattle.verdict.proofs.Judged.{levels_refuse, length_refuses, writes}
use Rattle.verdict.proofs.judging.flows.Goals as goal

-- equal orders and books have equal lists
carried : (o p : Order) (a b : Book) (xs ys : List ℕ) (r s : Result ℕ Fault) → o ≡ p → a ≡ b → r ≡ s → Listing o (means a) xs ys r → Listing p (means b) xs ys s
carried o p a b xs ys r s same book answer h =
    subst (λ q. Listing p (means b) xs ys q) answer (subst (λ x. Listing p (means x) xs ys r) book (subst (λ x. Listing x (means a) xs ys r) same h))

pub returns-in_err-levels_known : goal.returns-in_err-levels_known
returns-in_err-levels_known g c =
    carried _ _ _ _ _ _ _ _ c.written_out-scale.ensures.ranks c.checked-book.ensures (sym (handed c.from_residual.result c.from_residual.ensures.1))
    (levels_refuse (scaled c.written_out-scale.result) (means c.checked-book.result.book.now) c.checked-book.result.formed.1.0 c.args.out.now _ (sym c.in_err-levels_known.ensures))

pub returns-then-needed-out : goal.returns-then-needed-out
returns-then-needed-out g c =
    let o = scaled c.written_out-scale.result in
    let b = means c.checked-book.result.book.now in
    let long = c.put_flows-needed.ensures.put.ends in
    let needed : 5 * length (flow_list o b) ≡ c.put_flows-needed.result = omega arith in
    carried _ _ _ _ _ _ _ _ c.written_out-scale.ensures.ranks c.checked-book.ensures (λ i. Err (record { layer = Call Buffer; place = (needed i, length c.args.out.now) }))
    (length_refuses o b c.checked-book.result.formed.1.0 (sym c.in_ok-levels_known.ensures) c.args.out.now (omega (arith, c.if-needed-out.true)))

pub returns : goal.returns
returns g c =
    let o = scaled c.written_out-scale.result in
    let b = means c.checked-book.result.book.now in
    let first = c.put_flows-needed.ensures.put.ends in
    let long = c.put_flows.ensures.put.ends in
    let written : 5 * length (flow_list o b) ≡ c.put_flows.result = omega arith in
    carried _ _ _ _ _ _ _ _ c.written_out-scale.ensures.ranks c.checked-book.ensures (ap Ok written)
    (writes o b c.checked-book.result.formed.1.0 (sym c.in_ok-levels_known.ensures) c.args.out.now c.put_flows.new.out (omega (arith, c.if-needed-out.false)) c.put_flows.ensures.put.bytes)
