-- Each turn evaluates one assignment.
use Rattle.std.proofs.Common.{◌≡◌, ◌<◌, ◌≤◌, map, length, get_or, take, ℤ, pos, sym, ap, ◌∙◌, arith, w32}
use mathlib.Core.List.{map-map}
use Rattle.std.proofs.lemmas.List.{get_or_default}
use Rattle.std.proofs.lemmas.Int.{to_z-of_z}
use Rattle.book.specs.Means.{code_of, spanned, slot_means}
use Rattle.meaning.specs.Book as meant
use Rattle.meaning.specs.Expression.{decoded}
use Rattle.runs.specs.Table.{value_at}
use Rattle.book.proofs.Numbering.{same_length}
use Rattle.discovery.proofs.Filling.{filled_more}
use Rattle.book.proofs.Rightness.{slot_right, slots_few}
use Rattle.discovery.proofs.Values.{no_slot, taken_values}
use Rattle.discovery.proofs.firing.Firing.values.Goals as goal

pub invariant_of-slot : goal.invariant_of-slot
invariant_of-slot g c =
    let action = c.args.action.now in
    record { right = slot_right action.book.now action.action.now action.right c.used-slot-items.result.now c.used-slot-items.ensures c.loop-place.place _ c.loop-place-test.true }

pub loop-place-preserved : goal.loop-place-preserved
loop-place-preserved g c =
    let few : c.loop-place.place < 4 = omega (arith, slots_few c.args.action.now.book.now c.args.action.now.action.now c.args.action.now.right _ c.used-slot-items.ensures, c.loop-place-test.true) in
    let T = g.H.Host.table c.args.self.now.host.now in
    let code = code_of c.args.action.now.book.now in
    let used = c.used-slot-items.result.now in
    let k = c.loop-place.place in
    let own = c.from.ensures in
    let other = c.from-2.ensures in
    let item = ap (λ x. value_at T c.args.self.now.device c.args.receiver (spanned code x.value)) (get_or_default used k _ no_slot c.loop-place-test.true) in
    filled_more (λ j v. v ≡ value_at T c.args.self.now.device c.args.receiver (spanned code (get_or used j no_slot).value)) c.loop-place.values 4 k (pos 0) _ c.loop-place.invariant.0 few (to_z-of_z w32 c.value.result (record { sfits = c.value.type_inv }) ∙ c.value.ensures ∙ (λ i. value_at (c.none.ensures T i) (own i) (other i) (decoded (c.value-code.ensures i))) ∙ item) c.loop-place.invariant.1

pub returns : goal.returns
returns g c =
    let b = c.args.action.now.book.now in
    let a = c.args.action.now.action.now in
    let used = c.used-slot-items.result.now in
    let is = c.used-slot-items.ensures in
    let f = slot_means (code_of b) in
    let value : meant.Slot → ℤ = λ x. value_at (g.H.Host.table c.args.self.now.host.now) c.args.self.now.device c.args.receiver x.value in
    let long = same_length f (take a.count a.slots) used is in
    let room : length used ≤ length c.loop-place.values = omega (arith, slots_few b a c.args.action.now.right used is, c.loop-place.invariant.0) in
    ap (λ n. take n c.loop-place.values) (sym long)
    ∙ taken_values (λ x. value (f x)) used c.loop-place.values room (λ k h. c.loop-place.invariant.1 k (omega (arith, h, c.loop-place-test.false)))
    ∙ sym (map-map value f used)
    ∙ ap (λ xs. map value (map f xs)) is
