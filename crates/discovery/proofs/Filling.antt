-- A table that is filled entry by entry. Assumes nothing.
use Rattle.std.proofs.Common.{◌≡◌, ℕ, ◌+◌, ◌<◌, List, length, get_or, set, sym, ◌∙◌, subst, ⊎_elim, arith}
use Rattle.std.proofs.lemmas.List.{length-set, get_or-set_same, get_or-set_other}
use Rattle.std.proofs.lemmas.Bool.{cases_eq}

-- one entry more: P says what each entry is to be
pub filled_more : {X : Type 0} (P : ℕ → X → Type 0) (xs : List X) (n i : ℕ) (d v : X) → length xs ≡ n → i < n → P i v → ((j : ℕ) → j < i → P j (get_or xs j d)) → (length (set xs i v) ≡ n) × ((j : ℕ) → j < i + 1 → P j (get_or (set xs i v) j d))
filled_more P xs n i d v long inside new old =
    let there : i < length xs = omega arith in (
      length-set xs i v ∙ long,
      λ j h.
          ⊎_elim
          (λ same. subst (λ k. P k (get_or (set xs i v) k d)) (sym same) (subst (P i) (sym (get_or-set_same xs i v d there)) new))
          (λ other. subst (P j) (sym (get_or-set_other xs i j v d other)) (old j (omega arith)))
          (cases_eq j i),
    )
