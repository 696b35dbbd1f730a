-- What the bytes from a place on spell at another is what all of them spell at both together. Assumes nothing.
use Rattle.std.specs.Prelude.{◌≡◌, ℕ, ◌+◌, ◌*◌, cond, List, [], ◌∷◌, drop, ◌==◌}
use Rattle.std.specs.Int.{w32}
use Rattle.std.proofs.Common.{to_z, sym, ap, ◌∙◌, add_assoc}
use Rattle.std.proofs.lemmas.List.{get_or-drop}
use Rattle.book.specs.declared.rule.Kind.TheVariants.{Local, Remote}
use Rattle.meaning.specs.Bytes.{byte_at, two_at, four_at}
use Rattle.meaning.specs.Parsed.{start_at}
use Rattle.book.specs.Spelling.{kind_spelt, span_spelt, slot_spelt, slots_spelt, rule_spelt, clause_spelt}

abbrev pub Shifts : {A : Type 0} → (List ℕ → ℕ → A) → Type 0
Shifts spelt = (bs : List ℕ) (at k : ℕ) → spelt (drop at bs) k ≡ spelt bs (at + k)

-- j places further
further : {A : Type 0} (spelt : List ℕ → ℕ → A) → Shifts spelt → (bs : List ℕ) (at k j : ℕ) → spelt (drop at bs) (k + j) ≡ spelt bs (at + k + j)
further spelt shifted bs at k j = shifted bs at (k + j) ∙ ap (spelt bs) (sym (add_assoc at k j))

pub byte_shifted : Shifts byte_at
byte_shifted bs at k = get_or-drop at bs k 0

pub two_shifted : Shifts two_at
two_shifted bs at k = let next = further byte_at byte_shifted bs at k in λ i. 256 * byte_shifted bs at k i + next 1 i

pub four_shifted : Shifts four_at
four_shifted bs at k =
    let next = further byte_at byte_shifted bs at k in
    λ i. 16777216 * byte_shifted bs at k i + 65536 * next 1 i + 256 * next 2 i + next 3 i

pub start_shifted : Shifts start_at
start_shifted bs at k = ap (to_z w32) (four_shifted bs at k)

pub kind_shifted : Shifts kind_spelt
kind_shifted bs at k = ap (λ b. cond (b == 1) Remote Local) (byte_shifted bs at k)

pub span_shifted : Shifts span_spelt
span_shifted bs at k =
    λ i. record { from = two_shifted bs at k i; size = further two_at two_shifted bs at k 2 i }

pub slot_shifted : Shifts slot_spelt
slot_shifted bs at k =
    λ i. record { target = byte_shifted bs at k i; value = further span_spelt span_shifted bs at k 1 i }

pub slots_shifted : Shifts slots_spelt
slots_shifted bs at k =
    let next = further slot_spelt slot_shifted bs at k in
    λ i. slot_shifted bs at k i ∷ next 5 i ∷ next 10 i ∷ next 15 i ∷ []

pub rule_shifted : Shifts rule_spelt
rule_shifted bs at k =
    let byte = further byte_at byte_shifted bs at k in
    let slots = further slots_spelt slots_shifted bs at k in
    λ i.
    record {
      carriers = two_shifted bs at k i;
      events = further four_at four_shifted bs at k 2 i;
      kind = further kind_spelt kind_shifted bs at k 6 i;
      condition = further span_spelt span_shifted bs at k 9 i;
      defaults = record { count = byte 7 i; slots = slots 13 i };
      tasks = record { count = byte 8 i; slots = slots 33 i };
    }

pub clause_shifted : Shifts clause_spelt
clause_shifted bs at k =
    λ i. record { device = byte_shifted bs at k i; test = further span_spelt span_shifted bs at k 1 i }
