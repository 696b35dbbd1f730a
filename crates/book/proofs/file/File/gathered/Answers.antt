-- The slots that are left give, beside what the loop has gathered, what all of them do.
use Rattle.std.proofs.Common.{◌≡◌, ℕ, ◌+◌, ◌<◌, ◌≤◌, Bool, List, All, map, length, get_or, drop, sym, ap, ◌∙◌, subst, arith}
use Rattle.std.proofs.lemmas.List.{at_drop_more, at_drop_all, get_or-map, length-map}
use Rattle.meaning.specs.Book as meant
use Rattle.book.specs.declared.rule.Slot.{Slot}
use Rattle.book.specs.Means.{slot_means}
use Rattle.book.specs.Plan.{code_in}
use Rattle.book.specs.Small.{SmallSlot, with_slot}
use Rattle.book.proofs.file.File.gathered.Goals as goal

module _ (targets : Bool) (code : List ℕ) (xs : List Slot) where
  -- what the slots from k on give beside m
  abbrev rest : ℕ → ℕ → ℕ
  rest m k = meant.gathered targets m (map (slot_means code) (drop k xs))

  goes_on : (m k : ℕ) (d : Slot) → k < length xs → rest (with_slot targets m (slot_means code (get_or xs k d))) (k + 1) ≡ rest m k
  unfolding meant.gathered
  goes_on m k d h = sym (at_drop_more (λ ys. meant.gathered targets m (map (slot_means code) ys)) xs k d h)

  ends : (m k : ℕ) → length xs ≤ k → m ≡ rest m k
  unfolding meant.gathered
  ends m k h = sym (at_drop_all (λ ys. meant.gathered targets m (map (slot_means code) ys)) xs k h)

pub with_slot-set-requires : goal.with_slot-set-requires
with_slot-set-requires c =
    let means = slot_means (code_in c.args.self.now.bytes.now c.args.self.now.layout) in
    let used = c.used-slot-items.result.now in
    let none : Slot = record { target = 0; value = record { from = 0; size = 0 } } in
    let small : All SmallSlot (map means used) = subst (λ xs. All SmallSlot (map means xs)) (sym c.used-slot-items.ensures) c.requires in
    let at = c.loop-slot.slot-index in
    subst SmallSlot (get_or-map means used at none (means none) c.loop-slot-test.true) (small at (means none) (omega (arith, length-map used means)))

pub loop-slot-preserved : goal.loop-slot-preserved
loop-slot-preserved c =
    let code = code_in c.args.self.now.bytes.now c.args.self.now.layout in
    ap (λ m. rest c.args.targets code c.used-slot-items.result.now m (c.loop-slot.slot-index + 1)) c.with_slot-set.ensures ∙ goes_on c.args.targets code c.used-slot-items.result.now c.loop-slot.set c.loop-slot.slot-index _ c.loop-slot-test.true ∙ c.loop-slot.invariant

pub returns : goal.returns
returns c =
    let code = code_in c.args.self.now.bytes.now c.args.self.now.layout in
    ends c.args.targets code c.used-slot-items.result.now c.loop-slot.set c.loop-slot.slot-index c.loop-slot-test.false ∙ c.loop-slot.invariant ∙ ap (λ xs. meant.gathered c.args.targets c.args.set (map (slot_means code) xs)) c.used-slot-items.ensures
