-- A loop over a list that gathers a set: what is left gives, beside what is gathered, what the whole list does. Assumes nothing.
use Rattle.std.proofs.Common.{◌≡◌, ℕ, ◌+◌, ◌<◌, ◌≤◌, List, [], ◌∷◌, length, get_or, drop, sym, ap, ◌∙◌}
use Rattle.std.proofs.lemmas.List.{at_drop_more, at_drop_all}

-- F takes one element after the other by a step
pub record Folds {X : Type 0} (F : ℕ → List X → ℕ) (step : ℕ → X → ℕ) : Type 0 where
  pub none : (m : ℕ) → F m [] ≡ m
  pub more : (m : ℕ) (x : X) (xs : List X) → F m (x ∷ xs) ≡ F (step m x) xs

module _ {X : Type 0} {F : ℕ → List X → ℕ} {step : ℕ → X → ℕ} (folds : Folds F step) where
  pub goes_on : (xs : List X) (k : ℕ) (d : X) (m n all : ℕ) → k < length xs → n ≡ step m (get_or xs k d) → F m (drop k xs) ≡ all → F n (drop (k + 1) xs) ≡ all
  goes_on xs k d m n all h e inv =
      ap (λ s. F s (drop (k + 1) xs)) e ∙ sym (folds.more m (get_or xs k d) (drop (k + 1) xs)) ∙ sym (at_drop_more (F m) xs k d h) ∙ inv

  pub ends : (xs : List X) (k m all : ℕ) → length xs ≤ k → F m (drop k xs) ≡ all → m ≡ all
  ends xs k m all h inv = sym (folds.none m) ∙ sym (at_drop_all (F m) xs k h) ∙ inv
