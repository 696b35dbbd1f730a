-- What holds of each element of a list. Assumes nothing.
use Rattle.std.proofs.Common.{◌≡◌, ℕ, zero, suc, ◌+◌, ◌<◌, Bool, true, List, [], ◌∷◌, length, get_or, refl, arith}
use Rattle.std.specs.List.{range_with_len, flat_map, AllByRecursion as All}
use Rattle.std.proofs.ByRecursion.{All-append}
use Rattle.std.proofs.lemmas.Bool.{and_parts, and_from}
use Rattle.meaning.specs.WellFormed.{every}

-- a test that holds of each element
pub every_all : {X : Type 0} (q : X → Bool) (xs : List X) → every q xs ≡ true → All (λ x. q x ≡ true) xs
unfolding every
every_all q [] h = tt
every_all q (x ∷ xs) h = let parts = and_parts (q x) (every q xs) h in (parts.0, every_all q xs parts.1)

pub every_from : {X : Type 0} (q : X → Bool) (xs : List X) (d : X) → ((j : ℕ) → j < length xs → q (get_or xs j d) ≡ true) → every q xs ≡ true
unfolding every
every_from q [] d h = refl
every_from q (x ∷ xs) d h = and_from (q x) (every q xs) (h 0 (omega arith)) (every_from q xs d (λ j lt. h (suc j) (omega arith)))

-- two facts of each element
pub all_with : {X : Type 0} (P Q R : X → Type 0) (xs : List X) → ((x : X) → P x → Q x → R x) → All P xs → All Q xs → All R xs
all_with P Q R [] f p q = tt
all_with P Q R (x ∷ xs) f p q = (f x p.0 q.0, all_with P Q R xs f p.1 q.1)

pub all_counting : (P : ℕ → Type 0) (a n : ℕ) → ((i : ℕ) → i < a + n → P i) → All P (range_with_len a n)
all_counting P a zero h = tt
all_counting P a (suc n) h = (h a (omega arith), all_counting P (a + 1) n (λ i lt. h i (omega arith)))

pub all_joined : {X Y : Type 0} (P : Y → Type 0) (f : X → List Y) (xs : List X) → All (λ x. All P (f x)) xs → All P (flat_map f xs)
all_joined P f [] h = tt
all_joined P f (x ∷ xs) h = All-append P (f x) (flat_map f xs) h.0 (all_joined P f xs h.1)
