-- A target that one of the first slots has is one that more of them have, and one that none has is not repeated.
use Rattle.std.proofs.Common.{◌≡◌, ℕ, zero, suc, ◌+◌, ◌*◌, ◌<◌, Bool, true, false, length, List, MatchBool, sym, refl, ap, ◌∙◌, ⊎_elim, subst, zero-add, arith, rules, tests}
use Rattle.std.specs.List.{HoldsAt, AllWithin, range_with_len}
use Rattle.std.proofs.lemmas.Bool.{cases_lt, eq-eqb, ne_eqb, or_from, or_left, or_right}
use Rattle.std.proofs.lemmas.Iterator.{cases_from_any, serves_from_Range, YieldsList-from_range}
use Rattle.std.proofs.lemmas.List.FromFn.{length-range_with_len, get_or-range_with_len}
use Rattle.meaning.specs.Bytes.{byte_at}
use Rattle.meaning.specs.Reading.{repeated}
use Rattle.book.proofs.file.File.is_repeated.Goals as goal

module _ (bs : List ℕ) (p t : ℕ) where
  Same : ℕ → Type 0
  Same j = byte_at bs (p + 5 * j) ≡ t

  found : (j k : ℕ) → Same j → j < k → repeated bs p t k ≡ true
  unfolding repeated Same
  found j zero e h = absurd (omega arith)
  found j (suc k) e h =
      ⊎_elim
      (λ lt. or_right _ _ (found j k e lt))
      (λ ge. let same : k ≡ j = omega arith in or_left _ _ (eq-eqb _ t (ap (λ i. byte_at bs (p + 5 * i)) same ∙ e)))
      (cases_lt j k)

  none : (k : ℕ) → ((j : ℕ) → j < k → Same j → ⊥) → repeated bs p t k ≡ false
  unfolding repeated Same
  none zero other = refl
  none (suc k) other = or_from _ _ (ne_eqb _ t (other k (omega arith))) (none k (λ j lt. other j (omega arith)))

  decided : (r : Bool) (k : ℕ) → MatchBool r ((j : ℕ) × (j < length (range_with_len 0 k)) × HoldsAt Same (range_with_len 0 k) j) (AllWithin (λ j. Same j → ⊥) (range_with_len 0 k) 0 (length (range_with_len 0 k))) → r ≡ repeated bs p t k
  decided true k h =
      let lt : h.0 < k = omega (arith, h.1, length-range_with_len 0 k) in
      sym (found h.0 k (subst Same (get_or-range_with_len 0 k h.0 0 lt ∙ zero-add h.0) (h.2 0)) lt)
  decided false k h =
      sym (none k (λ j lt e. h j 0 (omega arith) (omega (arith, length-range_with_len 0 k)) (subst Same (sym (get_or-range_with_len 0 k j 0 lt ∙ zero-add j)) e)))

pub returns : goal.returns
unfolding Same
returns c =
    let bs = c.args.self.now.bytes.now in
    decided bs c.args.at c.args.target c.any.result c.args.k
    (cases_from_any _ _ _ (Same bs c.args.at c.args.target) (λ j. Same bs c.args.at c.args.target j → ⊥) c.any.ensures.ran (YieldsList-from_range 0 c.args.k c.args.k (cc) (omega arith)) (λ j q e. search (rules, tests)) (λ j q e. search (rules, tests)))

pub any-requires-clause-callable : goal.any-requires-clause-callable
any-requires-clause-callable c = serves_from_Range (λ j q h. search rules) (λ j low high. search rules)
