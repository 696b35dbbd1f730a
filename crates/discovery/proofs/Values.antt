-- The values of an action's assignments. Assumes nothing.
use Rattle.std.proofs.Common.{◌≡◌, ℕ, ◌<◌, ◌≤◌, not, eqb, leb, List, map, length, get_or, take, ℤ, pos, sym, ap, ◌∙◌, arith}
use Rattle.std.proofs.lemmas.List.{ext_get_or, length-take-le, length-map, get_or-take, get_or-map}
use Rattle.std.proofs.lemmas.Bool.Decides.{nat_tests}
use Rattle.book.specs.declared.book.Book.{Book}
use Rattle.book.specs.declared.part.Part.{Part}
use Rattle.book.specs.declared.rule.Rule.{Rule}
use Rattle.book.specs.declared.rule.Slot.{Slot}
use Rattle.book.specs.Means.{code_of, slot_means, means}
use Rattle.book.specs.Parts.{number, action_of}
use Rattle.meaning.specs.Flow.{slots_of}
use Rattle.meaning.specs.Book as meant
use Rattle.meaning.specs.Levels.{Meets}
use Rattle.runs.specs.Update.{rule_at, lane_of}
use Rattle.book.specs.declared.part.Part.TheVariants.{Default, Task}
use Rattle.discovery.specs.declared.plan.Route.{Route}
use Rattle.discovery.specs.Plans.{Routed, lane}
use Rattle.book.specs.Rights.{Numbered}
use Rattle.book.proofs.Numbering.{same_length}
use Rattle.book.proofs.Parts.{part_slots}

abbrev pub no_slot : Slot
no_slot = record { target = 0; value = record { from = 0; size = 0 } }

-- the first entries of a table, if they are those of f over a list
pub taken_values : (f : Slot → ℤ) (slots : List Slot) (values : List ℤ) → length slots ≤ length values → ((k : ℕ) → k < length slots → get_or values k (pos 0) ≡ f (get_or slots k no_slot)) → take (length slots) values ≡ map f slots
taken_values f slots values room each =
    ext_get_or (pos 0) (take (length slots) values) (map f slots) (length-take-le (length slots) values room ∙ sym (length-map slots f)) (λ k h.
    let there : k < length slots = omega (arith, length-take-le (length slots) values room) in
    get_or-take (length slots) values k (pos 0) there ∙ each k there ∙ sym (get_or-map f slots k no_slot (pos 0) there))

some_test : (n : ℕ) → leb 1 n ≡ not (eqb n 0)
some_test n = grind (arith, nat_tests)

-- a part has a target exactly where its action uses a slot
pub some_used : (b : Book) (i : ℕ) (r : Rule) (p : Part) (used : List Slot) → Numbered b i r → used ≡ take (action_of r p).count (action_of r p).slots → leb 1 (length (slots_of (rule_at (means b) i) (number p))) ≡ not (eqb (length used) 0)
some_used b i r p used at is =
    let a = action_of r p in
    let slots = ap (λ x. slots_of x (number p)) at.is ∙ part_slots (code_of b) r p in
    ap (λ ss. leb 1 (length ss)) slots ∙ ap (leb 1) (sym (same_length (slot_means (code_of b)) (take a.count a.slots) used is)) ∙ some_test (length used)

-- the lane of a part is that of its route
pub routed_lane : (M : Meets) (b : meant.Book) (i : ℕ) (x : Route) (p : Part) → Routed M b i x → lane x p ≡ lane_of M b i (number p)
routed_lane M b i x Default routed = routed.0
routed_lane M b i x Task routed = routed.1
