-- A flow of a rule's part, or of a clause, is forbidden exactly where it goes from the sources to the targets of that part or
-- clause and the order bars it: the other half of the test asks for another kind. Assumes nothing.
use Rattle.std.proofs.Common.{◌≡◌, ℕ, ◌+◌, ◌-◌, ◌<◌, ◌≤◌, Bool, true, false, ◌&&◌, ◌||◌, eqb, ltb, length, get_or, replicate, filter, sym, refl, ap, ◌∙◌, arith}
use Rattle.std.proofs.lemmas.List.{get_or-replicate}
use Rattle.std.proofs.lemmas.Bool.{lt-ltb, le-leb, ne_eqb, and_left, and_right}
use Rattle.meaning.specs.Book.{Rule, Clause, Book, resources}
use Rattle.meaning.specs.Expression.{reads}
use Rattle.meaning.specs.Flow.{Flow, no_rule, no_clause, set_by, slots_of, sources, part_flow, clause_flow, barred, by_rule, by_clause, forbidden}
use Rattle.meaning.specs.FlowList.{flow, of_kind, of_clause}
use Rattle.meaning.specs.Levels.{Order}
use Rattle.meaning.specs.Sets.{has}
use Rattle.verdict.specs.Rows.{in_row}
use Rattle.verdict.proofs.Blocks.{all_kind, kept_same}

and_assoc : (x y z : Bool) → (x && y) && z ≡ x && (y && z)
and_assoc true y z = refl
and_assoc false y z = refl

or_none : (x y : Bool) → y ≡ false → (x || y) ≡ x
or_none true y e = refl
or_none false y e = e

none_or : (x y : Bool) → x ≡ false → (x || y) ≡ y
none_or x y e = ap (λ c. c || y) e

-- part p of rule i, its number as the code has it, and its targets
pub record PartOf (b : Book) (i : ℕ) (r : Rule) (p q targets : ℕ) : Type 0 where
  pub inside : i < length b.rules
  pub rule : get_or b.rules i no_rule ≡ r
  pub few : p < 2
  pub part : q ≡ p
  pub ends : targets ≡ set_by 0 (slots_of r p)

module _ (o : Order) (b : Book) where
  -- between resources a flow is forbidden where it is one of the book and barred
  between : (f : Flow) (c : Bool) → f.target < resources b → f.source < resources b → (by_rule b f || by_clause b f) ≡ c → forbidden o b f ≡ c && barred o b f.target f.source
  unfolding forbidden
  between f c target source e =
      λ i. (lt-ltb _ _ target i && lt-ltb _ _ source i) && (e i && barred o b f.target f.source)

  -- a row with the targets and sources of a flow test keeps what is forbidden
  row_forbidden : (i p k targets : ℕ) (from : ℕ → ℕ) (test : ℕ → ℕ → Bool) → ((t s : ℕ) → (by_rule b (flow i p k t s) || by_clause b (flow i p k t s)) ≡ test t s) → ((t s : ℕ) → t < resources b → test t s ≡ has targets t && has (from t) s) → filter (in_row o b targets from) (of_kind b i p k) ≡ filter (forbidden o b) (of_kind b i p k)
  row_forbidden i p k targets from test one is =
      kept_same (in_row o b targets from) (forbidden o b) (of_kind b i p k)
      (all_kind (λ f. in_row o b targets from f ≡ forbidden o b f) b i p k
      (λ t s target source. sym (between (flow i p k t s) (test t s) target source (one t s) ∙ ap (λ c. c && barred o b t s) (is t s target) ∙ and_assoc (has targets t) (has (from t) s) (barred o b t s))))

  -- the row of a kind of a part
  pub part_row : {i p q targets : ℕ} {r : Rule} → PartOf b i r p q targets → (k : ℕ) (from : ℕ → ℕ) → 1 ≤ k → k ≤ 4 → ((t : ℕ) → t < resources b → from t ≡ sources b r p k t) → filter (in_row o b targets from) (of_kind b i q k) ≡ filter (forbidden o b) (of_kind b i p k)
  part_row {i} {p} {q} {targets} {r} x k from low high each =
      ap (λ n. filter (in_row o b targets from) (of_kind b i n k)) x.part
      ∙ row_forbidden i p k targets from (part_flow b r p k)
      (λ t s.
      let f = flow i p k t s in
      let not_clause : by_clause b f ≡ false = and_right _ _ (and_left _ _ (and_right (eqb p 0) (eqb k 5) (ne_eqb k 5 (λ e. omega arith)))) in
      or_none (by_rule b f) (by_clause b f) not_clause
      ∙ (λ j. lt-ltb i (length b.rules) x.inside j && (lt-ltb p 2 x.few j && ((le-leb 1 k low j && le-leb k 4 high j) && part_flow b (x.rule j) p k t s))))
      (λ t s h. sym (λ j. has (x.ends j) t && has (each t h j) s))

  -- the same where one set of sources serves every target
  pub part_row_same : {i p q targets : ℕ} {r : Rule} → PartOf b i r p q targets → (k m : ℕ) → 1 ≤ k → k ≤ 4 → resources b ≤ 32 → ((t : ℕ) → m ≡ sources b r p k t) → filter (in_row o b targets (λ t. get_or (replicate 32 m) t 0)) (of_kind b i q k) ≡ filter (forbidden o b) (of_kind b i p k)
  part_row_same x k m low high few each =
      part_row x k (λ t. get_or (replicate 32 m) t 0) low high (λ t h. get_or-replicate 32 t m 0 (omega arith) ∙ each t)

  -- the row of a clause
  pub clause_row : (n : ℕ) (x : Clause) (m : ℕ) → n < length b.clauses → get_or b.clauses n no_clause ≡ x → resources b ≤ 32 → m ≡ reads 0 x.test → filter (in_row o b m (λ t. get_or (replicate 32 m) t 0)) (of_clause b n) ≡ filter (forbidden o b) (of_clause b n)
  clause_row n x m inside is few read =
      row_forbidden (32 + n) 0 5 m (λ t. get_or (replicate 32 m) t 0) (clause_flow x)
      (λ t s.
      let f = flow (32 + n) 0 5 t s in
      let number : 32 + n - 32 ≡ n = omega arith in
      let at : get_or b.clauses (32 + n - 32) no_clause ≡ x = ap (λ m. get_or b.clauses m no_clause) number ∙ is in
      none_or (by_rule b f) (by_clause b f) (and_right (ltb (32 + n) (length b.rules)) _ refl)
      ∙ (λ j. (le-leb 32 (32 + n) (omega arith) j && lt-ltb (32 + n) (32 + length b.clauses) (omega arith) j) && clause_flow (at j) t s))
      (λ t s h. sym (λ j. has (read j) t && has ((get_or-replicate 32 t m 0 (omega arith) ∙ read) j) s))
