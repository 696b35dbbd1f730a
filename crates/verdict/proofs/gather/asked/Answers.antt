-- Each slot adds what its expression reads of the receiver.
use Rattle.std.proofs.Common.{ℕ, List, map, refl, ap, ◌∙◌}
use Rattle.book.specs.declared.rule.Slot.{Slot}
use Rattle.book.specs.Means.{code_of, spanned, slot_means}
use Rattle.meaning.specs.Expression.{asks, decoded}
use Rattle.meaning.specs.Flow as meant
use Rattle.verdict.proofs.Folds.{Folds, goes_on, ends}
use Rattle.book.proofs.Rightness.{slot_right}
use Rattle.verdict.proofs.gather.asked.Goals as goal

folds : (code : List ℕ) → Folds (λ m (xs : List Slot). meant.asked_by m (map (slot_means code) xs)) (λ m x. asks m (spanned code x.value))
unfolding meant.asked_by
folds code = record { none = λ m. refl; more = λ m x xs. refl }

pub invariant_of-slot : goal.invariant_of-slot
invariant_of-slot c =
    let action = c.args.action.now in
    record { right = slot_right action.book.now action.action.now action.right c.used-slot-items.result.now c.used-slot-items.ensures c.loop-slot.slot-index _ c.loop-slot-test.true }

pub loop-slot-preserved : goal.loop-slot-preserved
loop-slot-preserved c =
    goes_on (folds (code_of c.args.action.now.book.now)) c.used-slot-items.result.now c.loop-slot.slot-index _ c.loop-slot.set _ _ c.loop-slot-test.true (c.reads-set.ensures ∙ ap (λ bs. asks c.loop-slot.set (decoded bs)) c.value.ensures) c.loop-slot.invariant

pub returns : goal.returns
returns c =
    ends (folds (code_of c.args.action.now.book.now)) c.used-slot-items.result.now c.loop-slot.slot-index _ _ c.loop-slot-test.false c.loop-slot.invariant
    ∙ ap (λ xs. meant.asked_by c.args.set (map (slot_means (code_of c.args.action.now.book.now)) xs)) c.used-slot-items.ensures
