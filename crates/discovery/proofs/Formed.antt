-- What a change forms is what its rules form, one after the other. Assumes nothing.
use Rattle.std.proofs.Common.{◌≡◌, ℕ, Bool, true, false, cond, not, ◌&&◌, eqb, leb, List, [], ◌∷◌, ◌++◌, map, length, filter, refl, ap, ◌∙◌, ap₂}
use Rattle.std.specs.List.{range_with_len, flat_map, AllByRecursion as All}
use Rattle.std.proofs.lemmas.List.Elements.{filter-append}
use Rattle.std.proofs.ByRecursion.{All-append}
use Rattle.std.proofs.lemmas.List.{map-append}
use Rattle.std.proofs.lemmas.Bool.{and_left, cond-false, cond_both}
use Rattle.meaning.specs.Book.{Book, devices}
use Rattle.meaning.specs.Expression.{truth}
use Rattle.meaning.specs.Flow.{lands, share}
use Rattle.meaning.specs.Sets.{has}
use Rattle.runs.specs.Discovery.{Place, place, default_places, receivers, task_places, places_of, places, goes, form, formed}
use Rattle.runs.specs.Table.{Table, value_at}
use Rattle.runs.specs.Update.{Update, rule_at}
use Rattle.runs.proofs.Alike.{joined_same}
use Rattle.discovery.specs.Forming.{by_default, by_task_at, by_task_for, by_task, by_rule}

module _ (b : Book) (T : Table) (d changed : ℕ) where
  -- what is formed at some places
  abbrev formed_at : List Place → List Update
  formed_at xs = map (form b T d) (filter (goes b T d changed) xs)

  at-append : (xs ys : List Place) → formed_at (xs ++ ys) ≡ formed_at xs ++ formed_at ys
  at-append xs ys =
      ap (map (form b T d)) (filter-append (goes b T d changed) xs ys) ∙ map-append (form b T d) (filter (goes b T d changed) xs) (filter (goes b T d changed) ys)

  at_joined : (f : ℕ → List Place) (ns : List ℕ) → formed_at (flat_map f ns) ≡ flat_map (λ n. formed_at (f n)) ns
  at_joined f [] = refl
  at_joined f (n ∷ ns) = at-append (f n) (flat_map f ns) ∙ ap (λ us. formed_at (f n) ++ us) (at_joined f ns)

  module _ (i : ℕ) where
    fires : Bool
    fires = share (rule_at b i).events changed

    -- one place of the task
    at_task : (e : ℕ) → fires ≡ true → formed_at (place i 1 e ∷ []) ≡ by_task_at b T i d e
    unfolding fires
    at_task e fired = ap (λ t. map (form b T d) (cond (t && truth (value_at T d e (rule_at b i).condition)) (place i 1 e ∷ []) [])) fired ∙ either (truth (value_at T d e (rule_at b i).condition))
      where
        either : (t : Bool) → map (form b T d) (cond t (place i 1 e ∷ []) []) ≡ cond t (form b T d (place i 1 e) ∷ []) []
        either true = refl
        either false = refl

    at_default : fires ≡ true → formed_at (default_places (rule_at b i) i d) ≡ by_default b T i d
    unfolding fires
    at_default fired = either (leb 1 (length (rule_at b i).defaults))
      where
        either : (t : Bool) → formed_at (cond t (place i 0 d ∷ []) []) ≡ cond t (form b T d (place i 0 d) ∷ []) []
        either true = ap (λ t. map (form b T d) (cond (t && true) (place i 0 d ∷ []) [])) fired
        either false = refl

    at_receivers : fires ≡ true → (ns : List ℕ) → formed_at (map (place i 1) (filter (λ e. not (eqb e d) && lands b (rule_at b i) 1 e) ns)) ≡ flat_map (by_task_for b T i d) ns
    at_receivers fired [] = refl
    at_receivers fired (e ∷ ns) =
        split (not (eqb e d) && lands b (rule_at b i) 1 e) (filter (λ x. not (eqb x d) && lands b (rule_at b i) 1 x) ns) ∙ ap (λ us. by_task_for b T i d e ++ us) (at_receivers fired ns)
      where
        split : (t : Bool) (xs : List ℕ) → formed_at (map (place i 1) (cond t (e ∷ xs) xs)) ≡ cond t (by_task_at b T i d e) [] ++ formed_at (map (place i 1) xs)
        split true xs = at-append (place i 1 e ∷ []) (map (place i 1) xs) ∙ ap (λ us. us ++ formed_at (map (place i 1) xs)) (at_task e fired)
        split false xs = refl

    at_tasks : fires ≡ true → formed_at (task_places b (rule_at b i) i d) ≡ by_task b T i d
    at_tasks fired = either (leb 1 (length (rule_at b i).tasks)) (rule_at b i).remote
      where
        either : (t r : Bool) → formed_at (cond t (cond r (map (place i 1) (receivers b (rule_at b i) d)) (place i 1 d ∷ [])) []) ≡ cond t (cond r (flat_map (by_task_for b T i d) (range_with_len 0 (devices b))) (by_task_at b T i d d)) []
        either true true = at_receivers fired (range_with_len 0 (devices b))
        either true false = at_task d fired
        either false r = refl

    -- nothing goes anywhere where no event changed
    quiet : fires ≡ false → (xs : List Place) → All (λ x. x.rule ≡ i) xs → filter (goes b T d changed) xs ≡ []
    unfolding fires
    quiet none [] all = refl
    quiet none (x ∷ xs) all =
        cond-false (goes b T d changed x) _ _ (and_left _ _ (ap (λ n. share (rule_at b n).events changed) all.0 ∙ none)) ∙ quiet none xs all.1

    -- all places of the rule are its own
    own_places : All (λ x. x.rule ≡ i) (default_places (rule_at b i) i d ++ task_places b (rule_at b i) i d)
    own_places =
        All-append (λ x. x.rule ≡ i) (default_places (rule_at b i) i d) (task_places b (rule_at b i) i d)
        (cond_both (leb 1 (length (rule_at b i).defaults)) (place i 0 d ∷ []) [] Own (λ _. (refl, tt)) (λ _. tt))
        (cond_both (leb 1 (length (rule_at b i).tasks)) _ [] Own (λ _. cond_both (rule_at b i).remote (map (place i 1) (receivers b (rule_at b i) d)) (place i 1 d ∷ []) Own (λ _. mapped (receivers b (rule_at b i) d)) (λ _. (refl, tt))) (λ _. tt))
      where
        Own : List Place → Type 0
        Own = All (λ x. x.rule ≡ i)

        mapped : (es : List ℕ) → All (λ x. x.rule ≡ i) (map (place i 1) es)
        mapped [] = tt
        mapped (e ∷ es) = (refl, mapped es)

    at_rule : formed_at (places_of b d i) ≡ by_rule b T d changed i
    unfolding by_rule fires
    at_rule = either (has (rule_at b i).carriers d)
      where
        here : (f : Bool) → fires ≡ f → formed_at (default_places (rule_at b i) i d ++ task_places b (rule_at b i) i d) ≡ cond f (by_default b T i d ++ by_task b T i d) []
        here true e =
            at-append (default_places (rule_at b i) i d) (task_places b (rule_at b i) i d) ∙ ap₂ (λ us vs. us ++ vs) (at_default e) (at_tasks e)
        here false e = ap (map (form b T d)) (quiet e _ own_places)

        either : (t : Bool) → formed_at (cond t (default_places (rule_at b i) i d ++ task_places b (rule_at b i) i d) []) ≡ cond (t && share (rule_at b i).events changed) (by_default b T i d ++ by_task b T i d) []
        either true = here (share (rule_at b i).events changed) refl
        either false = refl

  -- a change forms what its rules form
  pub by_rules : formed b T d changed ≡ flat_map (by_rule b T d changed) (range_with_len 0 (length b.rules))
  unfolding formed places
  by_rules =
      at_joined (places_of b d) (range_with_len 0 (length b.rules)) ∙ joined_same _ _ (range_with_len 0 (length b.rules)) (all_same (range_with_len 0 (length b.rules)))
    where
      all_same : (ns : List ℕ) → All (λ n. formed_at (places_of b d n) ≡ by_rule b T d changed n) ns
      all_same [] = tt
      all_same (n ∷ ns) = (at_rule n, all_same ns)
