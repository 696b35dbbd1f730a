-- What is wrong in the code is what is wrong in the rest of it, until an instruction may not stand or none is left.
use Rattle.std.proofs.Common.{◌≡◌, ℕ, ◌+◌, ◌-◌, true, false, cond, eqb, leb, List, length, Some, None, sym, ap, ◌∙◌, arith}
use Rattle.std.proofs.lemmas.List.{nil_from_length}
use Rattle.std.proofs.lemmas.Bool.{cond-true, cond-false, eqb-true, eqb-false, eq-eqb, ne_eqb, lt-leb, and_from, and_left, and_right}
use Rattle.std.proofs.lemmas.Bool.Decides.{nat_tests}
use Rattle.meaning.specs.Expression.{Scope, encoded_instruction, pops, wrong_after, may_stand, named, deepened}
use Rattle.book.specs.Scopes.{scoped}
use Rattle.book.proofs.Walk.{took, judged, shorter, stuck}
use Rattle.book.proofs.expressions.first_wrong.Goals as goal
use Rattle.book.proofs.expressions.first_wrong.Goals.{then-not-names-via-then-not-names, then-not-names-via-else-not-names+then-depth-row, then-not-names-via-else-not-names+else-depth-row+then-depth-row-gt-DEPTH, else-is_empty-via-then-is_empty+else-depth-eq1, else-is_empty-via-else-is_empty}

-- at the end only the depth counts
at_end : (s : Scope) (at depth : ℕ) (bs : List ℕ) → length bs ≡ 0 → wrong_after s 0 at depth bs ≡ cond (eqb depth 1) None (Some at)
unfolding wrong_after
at_end s at depth bs e = ap (wrong_after s 0 at depth) (nil_from_length bs e)

pub loop-instruction-smaller : goal.loop-instruction-smaller
loop-instruction-smaller c = shorter (took c.loop-instruction.rest.now c.in-Some.instruction c.in-Some.tail.now c.in-Some.ensures)

pub loop-instruction-preserved : goal.loop-instruction-preserved
loop-instruction-preserved c =
    let t = took c.loop-instruction.rest.now c.in-Some.instruction c.in-Some.tail.now c.in-Some.ensures in
    let i = c.in-Some.instruction in
    let s = scoped c.args.scope in
    let row = c.row_of-row.ensures in
    let stands : may_stand s c.loop-instruction.depth i ≡ true = and_from _ _ (sym c.if-not-names.ensures) (grind (arith, nat_tests)) in
    let place : c.loop-instruction.at + length (encoded_instruction i) ≡ c.loop-instruction.at + c.from-at.result = omega arith in
    let deep : deepened c.loop-instruction.depth i ≡ c.loop-instruction.depth + 1 - c.row_of-row.result.pops = omega arith in
    (sym ((judged t s c.loop-instruction.at c.loop-instruction.depth ∙ cond-true _ _ _ stands) ∙ (λ k. wrong_after s 0 (place k) (deep k) c.in-Some.tail.now)) ∙ c.loop-instruction.invariant.0, omega (arith, t.long), c.if-depth-row-gt-DEPTH.false)

pub returns-then-not-names : goal.returns-then-not-names
returns-then-not-names c =
    let t = took c.loop-instruction.rest.now c.in-Some.instruction c.in-Some.tail.now c.in-Some.ensures in
    let i = c.in-Some.instruction in
    let s = scoped c.args.scope in
    let row = c.row_of-row.ensures in
    let falls : may_stand s c.loop-instruction.depth i ≡ false = elim c.then-not-names.branch [
      | then-not-names-via-then-not-names w ↦ and_left _ _ (sym c.names.ensures ∙ w.if-not-names.true)
      | then-not-names-via-else-not-names+then-depth-row w ↦ and_right _ _ (and_left _ _ (lt-leb (pops i) c.loop-instruction.depth (omega (arith, w.if-depth-row.true))))
      | then-not-names-via-else-not-names+else-depth-row+then-depth-row-gt-DEPTH w ↦ and_right (named s i) _ (and_right (leb (pops i) c.loop-instruction.depth) _ (lt-leb (deepened c.loop-instruction.depth i) 8 (omega (arith, w.if-depth-row-gt-DEPTH.true))))
    ] in
    record { value = sym (cond-false _ _ _ falls) ∙ sym (judged t s c.loop-instruction.at c.loop-instruction.depth) ∙ c.loop-instruction.invariant.0; bound = omega arith }

pub returns-then-depth-eq1 : goal.returns-then-depth-eq1
returns-then-depth-eq1 c =
    record { value = sym (at_end (scoped c.args.scope) _ _ _ (eqb-true _ 0 (sym c.if-is_empty.ensures)) ∙ cond-true _ _ _ (eq-eqb _ 1 c.if-depth-eq1.true)) ∙ c.loop-instruction.invariant.0; bound = tt }

pub returns-else-is_empty : goal.returns-else-is_empty
returns-else-is_empty c =
    let ended : wrong_after (scoped c.args.scope) 0 c.loop-instruction.at c.loop-instruction.depth c.loop-instruction.rest.now ≡ Some c.loop-instruction.at = elim c.else-is_empty.branch [
      | else-is_empty-via-then-is_empty+else-depth-eq1 w ↦ at_end _ _ _ _ (eqb-true _ 0 (sym w.if-is_empty.ensures)) ∙ cond-false _ _ _ (ne_eqb _ 1 w.if-depth-eq1.false)
      | else-is_empty-via-else-is_empty w ↦ stuck _ _ _ _ c.in_default.ensures (omega (arith, eqb-false _ 0 (sym w.if-is_empty.ensures)))
    ] in
    record { value = sym ended ∙ c.loop-instruction.invariant.0; bound = omega arith }
