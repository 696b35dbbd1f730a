-- The first of some numbers that a test picks, by a loop over them. Assumes nothing.
use Rattle.std.proofs.Common.{◌≡◌, ℕ, suc, ◌+◌, ◌-◌, ◌<◌, ◌≤◌, Bool, true, false, cond, not, ◌&&◌, Some, None, Option, sym, ap, ◌∙◌, arith}
use Rattle.meaning.specs.Book.{Book, Clause}
use Rattle.runs.specs.Clauses.{holds, clause_at, first_where}
use Rattle.runs.specs.Table.{Table}

-- the clause j is one that p picks, and false
abbrev pub fails : Book → Table → (Clause → Bool) → ℕ → Bool
fails b T p j = p (clause_at b j) && not (holds T (clause_at b j))

module _ (p : ℕ → Bool) (n i : ℕ) (all : Option ℕ) where
  opened : i < n → first_where p i (n - i) ≡ cond (p i) (Some i) (first_where p (i + 1) (n - (i + 1)))
  unfolding first_where
  opened h = let more : n - i ≡ suc (n - (i + 1)) = omega arith in ap (first_where p i) more

  pub found : i < n → p i ≡ true → first_where p i (n - i) ≡ all → Some i ≡ all
  found h it inv = sym (opened h ∙ ap (λ t. cond t (Some i) (first_where p (i + 1) (n - (i + 1)))) it) ∙ inv

  pub passed_over : i < n → p i ≡ false → first_where p i (n - i) ≡ all → first_where p (i + 1) (n - (i + 1)) ≡ all
  passed_over h it inv = sym (opened h ∙ ap (λ t. cond t (Some i) (first_where p (i + 1) (n - (i + 1)))) it) ∙ inv

  pub none_left : n ≤ i → first_where p i (n - i) ≡ all → None ≡ all
  unfolding first_where
  none_left h inv = let none : n - i ≡ 0 = omega arith in sym (ap (first_where p i) none) ∙ inv
