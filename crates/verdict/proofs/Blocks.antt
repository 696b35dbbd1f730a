-- A filter of a list that grows by one flow, or by one block of flows, grows by what it keeps of that. Assumes nothing.
use Rattle.std.proofs.Common.{◌≡◌, ℕ, zero, suc, ◌+◌, ◌<◌, Bool, true, false, cond, ◌&&◌, List, [], ◌∷◌, ◌++◌, map, filter, sym, refl, ap, ◌∙◌, arith}
use Rattle.std.specs.List.{range_with_len, flat_map, AllByRecursion as All}
use Rattle.std.proofs.lemmas.List.FromFn.{map-range_with_len_more, filter_of_map_range_with_len_more}
use Rattle.std.proofs.ByRecursion.{All-append, All-map}
use Rattle.std.proofs.lemmas.List.{append-nil, map-id, flat_map_more}
use Rattle.std.proofs.lemmas.Bool.{cond-true, cond-false}
use Rattle.meaning.specs.Book.{Book, resources}
use Rattle.meaning.specs.Flow.{Flow}
use Rattle.meaning.specs.FlowList.{flow, to_target, of_kind}
use Rattle.meaning.specs.Levels.{Order}
use Rattle.meaning.specs.Sets.{has}
use Rattle.verdict.specs.Rows.{leaks, in_row}

-- one more flow, which is kept or not
module _ (p : Flow → Bool) (f : ℕ → Flow) (k : ℕ) where
  pub kept_one : p (f k) ≡ true → filter p (map f (range_with_len 0 k)) ++ f k ∷ [] ≡ filter p (map f (range_with_len 0 (k + 1)))
  kept_one e = sym (filter_of_map_range_with_len_more p f 0 k k (omega arith) ∙ ap (λ l. filter p (map f (range_with_len 0 k)) ++ l) (cond-true (p (f k)) (f k ∷ []) [] e))

  pub kept_no : p (f k) ≡ false → filter p (map f (range_with_len 0 k)) ≡ filter p (map f (range_with_len 0 (k + 1)))
  kept_no e = sym (filter_of_map_range_with_len_more p f 0 k k (omega arith) ∙ ap (λ l. filter p (map f (range_with_len 0 k)) ++ l) (cond-false (p (f k)) (f k ∷ []) [] e) ∙ append-nil (filter p (map f (range_with_len 0 k))))

-- one more block
counting_more : (n : ℕ) → range_with_len 0 (n + 1) ≡ range_with_len 0 n ++ n ∷ []
counting_more n = sym (map-id (range_with_len 0 (n + 1))) ∙ map-range_with_len_more (λ (x : ℕ). x) 0 n n (omega arith) ∙ ap (λ l. l ++ n ∷ []) (map-id (range_with_len 0 n))

pub joined_one : {X : Type 0} (f : ℕ → List X) (n : ℕ) → flat_map f (range_with_len 0 n) ++ f n ≡ flat_map f (range_with_len 0 (n + 1))
joined_one f n = flat_map_more f [] (range_with_len 0 n) n ∙ ap (flat_map f) (sym (counting_more n))

-- tests that agree keep the same
pub kept_same : {X : Type 0} (p q : X → Bool) (xs : List X) → All (λ x. p x ≡ q x) xs → filter p xs ≡ filter q xs
kept_same p q [] same = refl
kept_same p q (x ∷ xs) same = λ i. cond (same.0 i) (x ∷ kept_same p q xs same.1 i) (kept_same p q xs same.1 i)

kept_none : {X : Type 0} (xs : List X) → filter (λ _. false) xs ≡ []
kept_none [] = refl
kept_none (x ∷ xs) = kept_none xs

all_counting : (P : ℕ → Type 0) (a n : ℕ) → ((k : ℕ) → k < a + n → P k) → All P (range_with_len a n)
all_counting P a zero each = tt
all_counting P a (suc n) each = (each a (omega arith), all_counting P (a + 1) n (λ k h. each k (omega arith)))

all_joined : {X Y : Type 0} (P : Y → Type 0) (f : X → List Y) (xs : List X) → All (λ x. All P (f x)) xs → All P (flat_map f xs)
all_joined P f [] all = tt
all_joined P f (x ∷ xs) all = All-append P (f x) (flat_map f xs) all.0 (all_joined P f xs all.1)

module _ (P : Flow → Type 0) (b : Book) (i p k : ℕ) where
  all_target : (t : ℕ) → ((s : ℕ) → s < resources b → P (flow i p k t s)) → All P (to_target b i p k t)
  all_target t each = All-map P (flow i p k t) (range_with_len 0 (resources b)) (all_counting (λ s. P (flow i p k t s)) 0 (resources b) (λ s h. each s (omega arith)))

  -- what holds between resources holds of each flow of a kind
  pub all_kind : ((t s : ℕ) → t < resources b → s < resources b → P (flow i p k t s)) → All P (of_kind b i p k)
  all_kind each =
      all_joined P (to_target b i p k) (range_with_len 0 (resources b))
      (all_counting (λ t. All P (to_target b i p k t)) 0 (resources b) (λ t h. all_target t (λ s l. each t s (omega arith) l)))

-- a row keeps of the flows to one target what leaks to it, or nothing
module _ (o : Order) (b : Book) (targets : ℕ) (sources : ℕ → ℕ) (i p k t : ℕ) where
  pub row_in : has targets t ≡ true → filter (leaks o b (sources t)) (to_target b i p k t) ≡ filter (in_row o b targets sources) (to_target b i p k t)
  row_in e =
      sym (kept_same (in_row o b targets sources) (leaks o b (sources t)) (to_target b i p k t)
      (all_target (λ f. in_row o b targets sources f ≡ leaks o b (sources t) f) b i p k t (λ s _. ap (λ c. c && leaks o b (sources t) (flow i p k t s)) e)))

  pub row_out : has targets t ≡ false → [] ≡ filter (in_row o b targets sources) (to_target b i p k t)
  row_out e =
      sym (kept_same (in_row o b targets sources) (λ _. false) (to_target b i p k t)
      (all_target (λ f. in_row o b targets sources f ≡ false) b i p k t (λ s _. ap (λ c. c && leaks o b (sources t) (flow i p k t s)) e))
      ∙ kept_none (to_target b i p k t))
