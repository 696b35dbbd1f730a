-- Each slot for the target adds what its expression reads.
use Rattle.std.proofs.Common.{◌≡◌, ℕ, cond, eqb, List, map, get_or, sym, refl, ap, ◌∙◌}
use Rattle.std.proofs.lemmas.Bool.{cond-true, cond-false, eq-eqb, ne_eqb}
use Rattle.book.specs.declared.rule.Slot.{Slot}
use Rattle.book.specs.Means.{code_of, spanned, slot_means}
use Rattle.meaning.specs.Expression.{decoded}
use Rattle.meaning.specs.Flow as meant
use Rattle.verdict.proofs.Folds.{Folds, goes_on, ends}
use Rattle.book.proofs.Rightness.{slot_right}
use Rattle.verdict.proofs.gather.read_for.Goals as goal
use Rattle.verdict.proofs.gather.read_for.Goals.{then-from-target, else-from-target}

folds : (t : ℕ) (code : List ℕ) → Folds (λ m (xs : List Slot). meant.read_for t m (map (slot_means code) xs)) (λ m x. cond (eqb x.target t) (meant.both_reads m (spanned code x.value)) m)
unfolding meant.read_for
folds t code = record { none = λ m. refl; more = λ m x xs. refl }

pub invariant_of-slot : goal.invariant_of-slot
invariant_of-slot c =
    let action = c.args.action.now in
    record { right = slot_right action.book.now action.action.now action.right c.used-slot-items.result.now c.used-slot-items.ensures c.loop-slot.slot-index _ c.loop-slot-test.true }

pub loop-slot-preserved : goal.loop-slot-preserved
loop-slot-preserved c =
    let code = code_of c.args.action.now.book.now in
    let m = c.loop-slot.set in
    let t = c.args.target in
    let slot = get_or c.used-slot-items.result.now c.loop-slot.slot-index (record { target = 0; value = record { from = 0; size = 0 } }) in
    let added : c.if-from-target.set ≡ cond (eqb slot.target t) (meant.both_reads m (spanned code slot.value)) m = elim c.if-from-target.branch [
      | then-from-target w ↦ w.set-is ∙ w.both_reads-set.ensures ∙ ap (λ bs. meant.both_reads m (decoded bs)) w.value.ensures ∙ sym (cond-true _ _ _ (eq-eqb slot.target t (sym c.from.ensures ∙ w.if-from-target.true)))
      | else-from-target w ↦ w.set-is ∙ sym (cond-false _ _ _ (ne_eqb slot.target t (λ e. w.if-from-target.false (c.from.ensures ∙ e))))
    ] in
    goes_on (folds t code) c.used-slot-items.result.now c.loop-slot.slot-index _ m _ _ c.loop-slot-test.true added c.loop-slot.invariant

pub returns : goal.returns
returns c =
    ends (folds c.args.target (code_of c.args.action.now.book.now)) c.used-slot-items.result.now c.loop-slot.slot-index _ _ c.loop-slot-test.false c.loop-slot.invariant
    ∙ ap (λ xs. meant.read_for c.args.target 0 (map (slot_means (code_of c.args.action.now.book.now)) xs)) c.used-slot-items.ensures
