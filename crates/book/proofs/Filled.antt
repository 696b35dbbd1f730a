-- Tables that hold what a file spells mean the book that it spells. Assumes nothing.
use Rattle.std.proofs.Common.{◌≡◌, ℕ, zero, suc, ◌+◌, ◌*◌, ◌<◌, ◌≤◌, Bool, true, false, cond, eqb, List, [], ◌∷◌, map, take, drop, refl, ap, ◌∙◌, arith}
use mathlib.Core.List.{map-map}
use Rattle.std.specs.List.{range_with_len}
use Rattle.std.proofs.lemmas.List.FromFn.{take-map-range_with_len}
use Rattle.std.proofs.lemmas.List.{drop-drop}
use Rattle.meaning.specs.Bytes.{byte_at, two_at}
use Rattle.meaning.specs.Expression.{decoded}
use Rattle.meaning.specs.Parsed.{expression_at, slot_at, slots_at, rule_at, clause_at}
use Rattle.book.specs.declared.rule.Slot.{Slot}
use Rattle.book.specs.declared.rule.Kind.TheVariants.{Local, Remote}
use Rattle.book.specs.Means.{spanned, slot_means, action_means, is_remote, rule_means, clause_means}
use Rattle.book.specs.Spelling.{span_spelt, slot_spelt, slots_spelt, rule_spelt, clause_spelt}

-- lists of one length that agree at each place
pub same_at : {X : Type 0} (f g : ℕ → X) (a n : ℕ) → ((k : ℕ) → k < a + n → f k ≡ g k) → map f (range_with_len a n) ≡ map g (range_with_len a n)
same_at f g a zero each = refl
same_at f g a (suc n) each = λ i. each a (omega arith) i ∷ same_at f g (a + 1) n (λ k h. each k (omega arith)) i

module _ (bs : List ℕ) (c : ℕ) where
  span_means : (p : ℕ) → spanned (drop c bs) (span_spelt bs p) ≡ expression_at bs c p
  span_means p = ap (λ code. decoded (take (two_at bs (p + 2)) code)) (drop-drop (two_at bs p) c bs)

  spelt_slot : (p : ℕ) → slot_means (drop c bs) (slot_spelt bs p) ≡ slot_at bs c p
  spelt_slot p = λ i. record { target = byte_at bs p; value = span_means (p + 1) i }

  spelt_action : (p count : ℕ) → count ≤ 4 → action_means (drop c bs) (record { count = count; slots = slots_spelt bs p }) ≡ slots_at bs c p count
  spelt_action p count few =
      let f : ℕ → Slot = λ k. slot_spelt bs (p + 5 * k) in
      let first : p ≡ p + 5 * 0 = omega arith in
      ap (λ q. map (slot_means (drop c bs)) (take count (slot_spelt bs q ∷ f 1 ∷ f 2 ∷ f 3 ∷ []))) first
      ∙ ap (map (slot_means (drop c bs))) (take-map-range_with_len f 0 4 count few)
      ∙ map-map (slot_means (drop c bs)) f (range_with_len 0 count)
      ∙ same_at _ (λ k. slot_at bs c (p + 5 * k)) 0 count (λ k h. spelt_slot (p + 5 * k))

  kind_remote : (b : Bool) → is_remote (cond b Remote Local) ≡ b
  kind_remote true = refl
  kind_remote false = refl

  pub spelt_rule : (p : ℕ) → byte_at bs (p + 7) ≤ 4 → byte_at bs (p + 8) ≤ 4 → rule_means (drop c bs) (rule_spelt bs p) ≡ rule_at bs c p
  unfolding rule_at
  spelt_rule p few less =
      λ i.
      record {
        carriers = (rule_spelt bs p).carriers;
        events = (rule_spelt bs p).events;
        remote = kind_remote (eqb (byte_at bs (p + 6)) 1) i;
        condition = span_means (p + 9) i;
        defaults = spelt_action (p + 13) (byte_at bs (p + 7)) few i;
        tasks = spelt_action (p + 33) (byte_at bs (p + 8)) less i;
      }

  pub rules_mean : (p n : ℕ) → ((i : ℕ) → i < n → (byte_at bs (p + 53 * i + 7) ≤ 4) × (byte_at bs (p + 53 * i + 8) ≤ 4)) → map (rule_means (drop c bs)) (map (λ k. rule_spelt bs (p + 53 * k)) (range_with_len 0 n)) ≡ map (λ k. rule_at bs c (p + 53 * k)) (range_with_len 0 n)
  rules_mean p n few =
      map-map (rule_means (drop c bs)) (λ k. rule_spelt bs (p + 53 * k)) (range_with_len 0 n)
      ∙ same_at _ (λ k. rule_at bs c (p + 53 * k)) 0 n (λ k h. let counts = few k (omega arith) in spelt_rule (p + 53 * k) counts.0 counts.1)

  pub clauses_mean : (p n : ℕ) → map (clause_means (drop c bs)) (map (λ k. clause_spelt bs (p + 5 * k)) (range_with_len 0 n)) ≡ map (λ k. clause_at bs c (p + 5 * k)) (range_with_len 0 n)
  clauses_mean p n =
      map-map (clause_means (drop c bs)) (λ k. clause_spelt bs (p + 5 * k)) (range_with_len 0 n)
      ∙ same_at _ (λ k. clause_at bs c (p + 5 * k)) 0 n (λ k h. λ i. record { device = byte_at bs (p + 5 * k); test = span_means (p + 5 * k + 1) i })
