-- The list is sorted because each block of it shares its first fields, and a later block has a larger next one; it holds every
-- forbidden flow because a forbidden flow's numbers are within the ranges that are counted through. Assumes nothing.
use Rattle.std.proofs.Common.{◌≡◌, ℕ, zero, suc, ◌+◌, ◌-◌, ◌<◌, ◌≤◌, Bool, true, ◌&&◌, ◌||◌, eqb, ltb, leb, List, [], ◌∷◌, ◌++◌, map, length, filter, sym, refl, ap, ◌∙◌, subst, ⊎_elim, arith}
use Rattle.std.specs.List.{range_with_len, flat_map, ContainsAt as Has, AllByRecursion as All}
use Rattle.std.proofs.ByRecursion.{All-append, All-weaker, all-has, all_kept_by, has_append_left, has_append_right, kept_by_passes}
use Rattle.std.proofs.lemmas.Bool.{and_parts, or_cases, both_ways, cases_Bool, cases_lt, cond-true, cond_both, eqb-true, leb-true, ltb-true}
use Rattle.std.proofs.lemmas.Bool.Decides.{nat_tests}
use Rattle.meaning.specs.Book.{Book, resources}
use Rattle.meaning.specs.Flow.{Flow, Sound, by_rule, by_clause, forbidden}
use Rattle.meaning.specs.FlowList.{flow, to_target, of_kind, of_part, of_rule, of_clause, candidates, flow_list, before, Ascending, Lists}
use Rattle.meaning.specs.Levels.{Order}

-- each flow comes before all later ones
abbrev Sorted : List Flow → Type 0
Sorted [] = Unit {0}
Sorted (f ∷ fs) = All (λ g. before f g ≡ true) fs × Sorted fs

ascending : (fs : List Flow) → Sorted fs → Ascending fs
ascending [] s = tt
ascending (f ∷ []) s = tt
ascending (f ∷ g ∷ fs) s = (s.0.0, ascending (g ∷ fs) s.1)

sorted_kept : (p : Flow → Bool) (fs : List Flow) → Sorted fs → Sorted (filter p fs)
sorted_kept p [] s = tt
sorted_kept p (f ∷ fs) s =
    cond_both (p f) (f ∷ filter p fs) (filter p fs) Sorted
    (λ _. (all_kept_by p (λ g. before f g ≡ true) fs s.0, sorted_kept p fs s.1))
    (λ _. sorted_kept p fs s.1)

sorted-append : (fs gs : List Flow) → Sorted fs → Sorted gs → All (λ f. All (λ g. before f g ≡ true) gs) fs → Sorted (fs ++ gs)
sorted-append [] gs s t across = t
sorted-append (f ∷ fs) gs s t across =
    (All-append (λ g. before f g ≡ true) fs gs s.0 across.0, sorted-append fs gs s.1 t across.1)

-- sorted flows that share something
record Block (P : Flow → Type 0) (fs : List Flow) : Type 0 where
  sorted : Sorted fs
  shared : All P fs

-- two blocks one after the other
block-append : (P Q R : Flow → Type 0) → ((f : Flow) → P f → R f) → ((f : Flow) → Q f → R f) → ((f g : Flow) → P f → Q g → before f g ≡ true) → (fs gs : List Flow) → Block P fs → Block Q gs → Block R (fs ++ gs)
block-append P Q R left right apart fs gs l r =
    record {
      sorted = sorted-append fs gs l.sorted r.sorted (All-weaker P _ (λ f p. All-weaker Q _ (λ g q. apart f g p q) gs r.shared) fs l.shared);
      shared = All-append R fs gs (All-weaker P R left fs l.shared) (All-weaker Q R right gs r.shared);
    }

-- in one of the n blocks from a on
abbrev Among : (ℕ → Flow → Type 0) → ℕ → ℕ → Flow → Type 0
Among P a n f = (i : ℕ) × (a ≤ i) × (i < a + n) × P i f

-- blocks in a row, where what one shares comes before what a later one shares
module _ (P : ℕ → Flow → Type 0) (f : ℕ → List Flow) (each : (i : ℕ) → Block (P i) (f i)) (apart : (i j : ℕ) (x y : Flow) → i < j → P i x → P j y → before x y ≡ true) where
  block_among : (a n : ℕ) → Block (Among P a n) (flat_map f (range_with_len a n))
  block_among a zero = record { sorted = tt; shared = tt }
  block_among a (suc n) =
      block-append (P a) (Among P (a + 1) n) (Among P a (suc n))
      (λ x p. (a, omega arith, omega arith, p))
      (λ y q. (q.0, omega (arith, q.1), omega (arith, q.2), q.3))
      (λ x y p q. apart a q.0 x y (omega (arith, q.1)) p q.3)
      (f a) (flat_map f (range_with_len (a + 1) n)) (each a) (block_among (a + 1) n)

  block_joined : (Q : Flow → Type 0) (a n : ℕ) → ((x : Flow) → Among P a n x → Q x) → Block Q (flat_map f (range_with_len a n))
  block_joined Q a n weaker =
      let row = block_among a n in
      record { sorted = row.sorted; shared = All-weaker (Among P a n) Q weaker (flat_map f (range_with_len a n)) row.shared }

-- the flows of a rule, of a part of it, of a kind there, to a target, from a source
abbrev InRule : ℕ → Flow → Type 0
InRule i f = f.rule ≡ i

abbrev InPart : ℕ → ℕ → Flow → Type 0
InPart i p f = (f.rule ≡ i) × (f.part ≡ p)

abbrev InKind : ℕ → ℕ → ℕ → Flow → Type 0
InKind i p k f = (f.rule ≡ i) × (f.part ≡ p) × (f.kind ≡ k)

abbrev InTarget : ℕ → ℕ → ℕ → ℕ → Flow → Type 0
InTarget i p k t f = (f.rule ≡ i) × (f.part ≡ p) × (f.kind ≡ k) × (f.target ≡ t)

abbrev InSource : ℕ → ℕ → ℕ → ℕ → ℕ → Flow → Type 0
InSource i p k t s f = (f.rule ≡ i) × (f.part ≡ p) × (f.kind ≡ k) × (f.target ≡ t) × (f.source ≡ s)

-- a list of single flows is a row of blocks
map_joined : (g : ℕ → Flow) (xs : List ℕ) → flat_map (λ x. g x ∷ []) xs ≡ map g xs
map_joined g [] = refl
map_joined g (x ∷ xs) = ap (λ l. g x ∷ l) (map_joined g xs)

module _ (b : Book) where
  target_block : (i p k t : ℕ) → Block (InTarget i p k t) (to_target b i p k t)
  target_block i p k t =
      subst (Block (InTarget i p k t)) (map_joined (flow i p k t) (range_with_len 0 (resources b)))
      (block_joined (InSource i p k t) (λ s. flow i p k t s ∷ [])
      (λ s. record { sorted = (tt, tt); shared = ((refl, refl, refl, refl, refl), tt) })
      (λ r s f g lt x y. grind (arith, nat_tests))
      (InTarget i p k t) 0 (resources b) (λ f h. (h.3.0, h.3.1, h.3.2, h.3.3)))

  kind_block : (i p k : ℕ) → Block (InKind i p k) (of_kind b i p k)
  kind_block i p k =
      block_joined (InTarget i p k) (to_target b i p k) (target_block i p k) (λ s t f g lt x y. grind (arith, nat_tests))
      (InKind i p k) 0 (resources b) (λ f h. (h.3.0, h.3.1, h.3.2))

  part_block : (i p : ℕ) → Block (InPart i p) (of_part b i p)
  part_block i p =
      block_joined (InKind i p) (of_kind b i p) (kind_block i p) (λ k l f g lt x y. grind (arith, nat_tests))
      (InPart i p) 1 4 (λ f h. (h.3.0, h.3.1))

  rule_block : (i : ℕ) → Block (InRule i) (of_rule b i)
  rule_block i =
      block_joined (InPart i) (of_part b i) (part_block i) (λ p q f g lt x y. grind (arith, nat_tests))
      (InRule i) 0 2 (λ f h. h.3.0)

  rules_block : Block (λ f. f.rule < length b.rules) (flat_map (of_rule b) (range_with_len 0 (length b.rules)))
  rules_block =
      block_joined InRule (of_rule b) rule_block (λ i j f g lt x y. grind (arith, nat_tests))
      (λ f. f.rule < length b.rules) 0 (length b.rules) (λ f h. omega (arith, h.2, h.3))

  clauses_block : Block (λ f. 32 ≤ f.rule) (flat_map (of_clause b) (range_with_len 0 (length b.clauses)))
  clauses_block =
      block_joined (λ j. InKind (32 + j) 0 5) (of_clause b) (λ j. kind_block (32 + j) 0 5) (λ i j f g lt x y. grind (arith, nat_tests))
      (λ f. 32 ≤ f.rule) 0 (length b.clauses) (λ f h. omega (arith, h.3.0))

  -- rules are numbered below clauses
  candidates_sorted : length b.rules ≤ 32 → Sorted (candidates b)
  candidates_sorted few =
      (block-append (λ f. f.rule < length b.rules) (λ f. 32 ≤ f.rule) (λ _. Unit {0}) (λ _ _. tt) (λ _ _. tt)
      (λ f g x y. grind (arith, nat_tests)) _ _ rules_block clauses_block).sorted

-- what a block has, the row has
has_joined : (f : ℕ → List Flow) (g : Flow) (i : ℕ) → Has (f i) g → (a n : ℕ) → a ≤ i → i < a + n → Has (flat_map f (range_with_len a n)) g
has_joined f g i h a zero low high = absurd (omega arith)
has_joined f g i h a (suc n) low high =
    ⊎_elim
    (λ later. has_append_right (f a) (flat_map f (range_with_len (a + 1) n)) g (has_joined f g i h (a + 1) n (omega arith) (omega arith)))
    (λ first. let here : i ≡ a = omega arith in has_append_left (f a) (flat_map f (range_with_len (a + 1) n)) g (subst (λ k. Has (f k) g) here h))
    (cases_lt a i)

has_kept : {X : Type 0} (p : X → Bool) (xs : List X) (x : X) → Has xs x → p x ≡ true → Has (filter p xs) x
has_kept p [] x (k, h, at) e = absurd (omega arith)
has_kept p (y ∷ xs) x (zero, h, at) e =
    subst (λ l. Has l x) (sym (cond-true (p y) (y ∷ filter p xs) (filter p xs) (ap p (at x) ∙ e))) (0, omega arith, at)
has_kept p (y ∷ xs) x (suc k, h, at) e =
    let later = has_kept p xs x (k, omega arith, at) e in
    cond_both (p y) (y ∷ filter p xs) (filter p xs) (λ l. Has l x) (λ _. has_append_right (y ∷ []) (filter p xs) x later) (λ _. later)

module _ (b : Book) (f : Flow) (target : f.target < resources b) (source : f.source < resources b) where
  has_kind : Has (of_kind b f.rule f.part f.kind) f
  has_kind =
      let from : ℕ → Flow = flow f.rule f.part f.kind f.target in
      let row = has_joined (λ s. from s ∷ []) f f.source (0, omega arith, λ _. refl) 0 (resources b) (omega arith) (omega arith) in
      has_joined (to_target b f.rule f.part f.kind) f f.target
      (subst (λ l. Has l f) (map_joined from (range_with_len 0 (resources b))) row) 0 (resources b) (omega arith) (omega arith)

  has_rule : f.rule < length b.rules → f.part < 2 → 1 ≤ f.kind → f.kind ≤ 4 → Has (candidates b) f
  has_rule rule part low high =
      let in_part = has_joined (of_kind b f.rule f.part) f f.kind has_kind 1 4 low (omega arith) in
      let in_rule = has_joined (of_part b f.rule) f f.part in_part 0 2 (omega arith) (omega arith) in
      has_append_left _ (flat_map (of_clause b) (range_with_len 0 (length b.clauses))) f
      (has_joined (of_rule b) f f.rule in_rule 0 (length b.rules) (omega arith) (omega arith))

  has_clause : 32 ≤ f.rule → f.rule < 32 + length b.clauses → f.part ≡ 0 → f.kind ≡ 5 → Has (candidates b) f
  has_clause low high part kind =
      let rule : f.rule ≡ 32 + (f.rule - 32) = omega arith in
      let in_clause = subst (λ l. Has l f) (λ i. of_kind b (rule i) (part i) (kind i)) has_kind in
      has_append_right (flat_map (of_rule b) (range_with_len 0 (length b.rules))) _ f
      (has_joined (of_clause b) f (f.rule - 32) in_clause 0 (length b.clauses) (omega arith) (omega arith))

-- a forbidden flow's numbers are in range
has_forbidden : (o : Order) (b : Book) (f : Flow) → forbidden o b f ≡ true → Has (candidates b) f
unfolding forbidden
has_forbidden o b f e =
    let whole = and_parts (ltb f.target (resources b) && ltb f.source (resources b)) _ e in
    let ends = and_parts (ltb f.target (resources b)) _ whole.0 in
    let target = ltb-true f.target (resources b) ends.0 in
    let source = ltb-true f.source (resources b) ends.1 in
    ⊎_elim
    (λ r.
    let rule = and_parts (ltb f.rule (length b.rules)) _ r in
    let part = and_parts (ltb f.part 2) _ rule.1 in
    let kind = and_parts (leb 1 f.kind) (leb f.kind 4) (and_parts (leb 1 f.kind && leb f.kind 4) _ part.1).0 in
    has_rule b f target source (ltb-true _ _ rule.0) (ltb-true _ _ part.0) (leb-true _ _ kind.0) (leb-true _ _ kind.1))
    (λ c.
    let both = and_parts (leb 32 f.rule && ltb f.rule (32 + length b.clauses)) _ c in
    let rule = and_parts (leb 32 f.rule) _ both.0 in
    let fixed = and_parts (eqb f.part 0) (eqb f.kind 5) (and_parts (eqb f.part 0 && eqb f.kind 5) _ both.1).0 in
    has_clause b f target source (leb-true _ _ rule.0) (ltb-true _ _ rule.1) (eqb-true _ _ fixed.0) (eqb-true _ _ fixed.1))
    (or_cases (by_rule b f) (by_clause b f) (and_parts (by_rule b f || by_clause b f) _ whole.1).0)

pub listed : (o : Order) (b : Book) → length b.rules ≤ 32 → Lists o b (flow_list o b)
unfolding flow_list
listed o b few =
    record {
      ascends = ascending (flow_list o b) (sorted_kept (forbidden o b) (candidates b) (candidates_sorted b few));
      holds = λ f e. has_kept (forbidden o b) (candidates b) f (has_forbidden o b f e) e;
      only = λ f h. all-has (λ g. forbidden o b g ≡ true) (flow_list o b) f (kept_by_passes (forbidden o b) (candidates b)) h;
    }

-- a list without elements is empty
empty : {X : Type 0} (xs : List X) → ((x : X) → Has xs x → ⊥) → xs ≡ []
empty [] none = refl
empty (x ∷ xs) none = absurd (none x (0, omega arith, λ _. refl))

-- the list is empty exactly where no flow is forbidden
pub sound_empty : (o : Order) (b : Book) → length b.rules ≤ 32 → length (flow_list o b) ≡ 0 → Sound o b
sound_empty o b few long f =
    ⊎_elim (λ e. let (k, h, _) = (listed o b few).holds f e in absurd (omega arith)) (λ e. e) (cases_Bool (forbidden o b f))

pub empty_sound : (o : Order) (b : Book) → length b.rules ≤ 32 → Sound o b → flow_list o b ≡ []
empty_sound o b few sound = empty (flow_list o b) (λ f h. both_ways (forbidden o b f) (sound f) ((listed o b few).only f h))
