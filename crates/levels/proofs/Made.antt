-- An array made by a call at each index, of a closure that stays as it is. Assumes nothing.
use Rattle.std.proofs.Common.{◌≡◌, ℕ, zero, suc, ◌+◌, ◌<◌, List, slice_index_or, arith, sym, subst}
use denote.Param.Members.{Mut, Called}
use Rattle.std.specs.Array.{IsFromFnResult, IsFromFnResultFrom}

module _ {F B : Type 0} {calls : Mut F (ℕ × Unit {0}) B} {f : F} (P : ℕ → B → Type 0) (gives : (i : ℕ) (y : B) (q : F) → Called calls f (i, tt) y q → (q ≡ f) × P i y) where
  each_from : (ys : List B) (i n k j : ℕ) (d : B) → i + k ≡ j → k < n → IsFromFnResultFrom calls f ys i n → P j (slice_index_or ys j d)
  each_from ys i zero k j d is inside made = absurd (omega arith)
  each_from ys i (suc n) zero j d is inside (q, y, at, called, rest) =
      let here : i ≡ j = omega arith in
      subst (λ x. P x (slice_index_or ys x d)) here (subst (P i) (sym (at.1 d)) (gives i y q called).1)
  each_from ys i (suc n) (suc k) j d is inside (q, y, at, called, rest) =
      each_from ys (i + 1) n k j d (omega arith) (omega arith) (subst (λ p. IsFromFnResultFrom calls p ys (i + 1) n) (gives i y q called).0 rest)

  -- what holds of each answer holds of each element
  pub each_made : {ys : List B} {n : ℕ} → IsFromFnResult calls f ys n → (k : ℕ) (d : B) → k < n → P k (slice_index_or ys k d)
  each_made {ys} {n} made k d inside = each_from ys 0 n k k d (omega arith) inside made.each
