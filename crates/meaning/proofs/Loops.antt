-- Checks in a row that all went through. Assumes nothing.
use Rattle.std.proofs.Common.{◌≡◌, ℕ, zero, suc, ◌+◌, ◌<◌, ◌≤◌, Bool, true, ◌&&◌, List, [], ◌∷◌, map, length, get_or, Ok, Result, refl, ap, ◌∙◌, subst, ⊎_elim, arith}
use Rattle.std.specs.List.{range_with_len}
use Rattle.std.proofs.lemmas.Bool.{and_parts, and_from, cases_eq}
use Rattle.fault.specs.declared.fault.Fault.{Fault}
use Rattle.meaning.specs.Checks.{through}
use Rattle.meaning.specs.WellFormed.{every}
use Rattle.meaning.proofs.Rows.{both}

each_from : {S : Type 0} (f : ℕ → S → Result S Fault) (n a : ℕ) (s t : S) → through f n a s ≡ Ok t → (i : ℕ) → a ≤ i → i < a + n → (u : S) × (v : S) × (f i u ≡ Ok v)
each_from f zero a s t e i low high = absurd (omega arith)
each_from {S} f (suc n) a s t e i low high =
    let step = both (f a s) (λ u. through f n (a + 1) u) t e in
    ⊎_elim
    (λ same. subst (λ j. (u : S) × (v : S) × (f j u ≡ Ok v)) same (s, step.0, step.1))
    (λ other. each_from f n (a + 1) step.0 t step.2 i (omega arith) (omega arith))
    (cases_eq a i)

-- each check of a row went through
pub each : {S : Type 0} (f : ℕ → S → Result S Fault) (n : ℕ) (s t : S) → through f n 0 s ≡ Ok t → (i : ℕ) → i < n → (u : S) × (v : S) × (f i u ≡ Ok v)
each f n s t e i lt = each_from f n 0 s t e i (omega arith) (omega arith)

every_from : (p : ℕ → Bool) (n a : ℕ) → ((i : ℕ) → a ≤ i → i < a + n → p i ≡ true) → every p (range_with_len a n) ≡ true
unfolding every
every_from p zero a h = refl
every_from p (suc n) a h =
    and_from (p a) (every p (range_with_len (a + 1) n)) (h a (omega arith) (omega arith)) (every_from p n (a + 1) (λ i low high. h i (omega arith) (omega arith)))

-- a test that holds of each number below n
pub every_below : (p : ℕ → Bool) (n : ℕ) → ((i : ℕ) → i < n → p i ≡ true) → every p (range_with_len 0 n) ≡ true
every_below p n h = every_from p n 0 (λ i low high. h i (omega arith))

every_map : {X Y : Type 0} (p : Y → Bool) (g : X → Y) (xs : List X) → every p (map g xs) ≡ every (λ x. p (g x)) xs
unfolding every
every_map p g [] = refl
every_map p g (x ∷ xs) = ap (λ r. p (g x) && r) (every_map p g xs)

-- a test that holds of each item of a row
pub every_row : {X : Type 0} (p : X → Bool) (g : ℕ → X) (n : ℕ) → ((i : ℕ) → i < n → p (g i) ≡ true) → every p (map g (range_with_len 0 n)) ≡ true
every_row p g n h = every_map p g (range_with_len 0 n) ∙ every_below (λ i. p (g i)) n h

-- a test that holds of each element holds of the one at k
pub every_at : {X : Type 0} (q : X → Bool) (xs : List X) (k : ℕ) (d : X) → every q xs ≡ true → k < length xs → q (get_or xs k d) ≡ true
unfolding every
every_at q [] k d all h = absurd (omega arith)
every_at q (x ∷ xs) zero d all h = (and_parts (q x) (every q xs) all).0
every_at q (x ∷ xs) (suc k) d all h = every_at q xs k d (and_parts (q x) (every q xs) all).1 (omega arith)
