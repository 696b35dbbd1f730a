-- The members of a set, from the lowest on: the lowest one, and then those of the set without it. Assumes nothing.
use Rattle.std.proofs.Common.{◌≡◌, ℕ, zero, suc, ◌+◌, ◌*◌, ◌%◌, ◌^◌, ◌<◌, ◌≤◌, Bool, true, false, cond, eqb, List, [], ◌∷◌, sym, refl, ap, ◌∙◌, ap₂, subst, ◌⊎◌, inl, inr, ⊎_elim, arith}
use lib.Bits.{bit_xor}
use Rattle.std.specs.Int.{w32, bit_at, trailing_zeros}
use Rattle.std.specs.List.{filter, list_any, range_with_len, AllByRecursion as All}
use Rattle.std.proofs.lemmas.Bool.{cases_eq, cases_Bool, cases_lt, eq-eqb, eqb-true, or_cases, or_parts, both_ways, false_from_ne_true}
use Rattle.std.proofs.lemmas.Nat.{one_shl}
use Rattle.std.proofs.lemmas.Nat.Bits.{bit_at_xor, bit_at-pow_same, bit_at-pow_other, bit_at-trailing_zeros, bit_at_above}
use Rattle.meaning.specs.Flow.{share}
use Rattle.meaning.specs.Sets.{has}
use Rattle.runs.proofs.Members.{none_has, share_from, shared}
use Rattle.discovery.specs.Members.{members_of}

-- ---- numbers that pass a test
filter_takes : (p : ℕ → Bool) (x : ℕ) (xs : List ℕ) → p x ≡ true → filter p (x ∷ xs) ≡ x ∷ filter p xs
filter_takes p x xs = ap (λ b. cond b (x ∷ filter p xs) (filter p xs))

filter_skips : (p : ℕ → Bool) (x : ℕ) (xs : List ℕ) → p x ≡ false → filter p (x ∷ xs) ≡ filter p xs
filter_skips p x xs = ap (λ b. cond b (x ∷ filter p xs) (filter p xs))

filter_alike : (p q : ℕ → Bool) (a n : ℕ) → ((r : ℕ) → a ≤ r → p r ≡ q r) → filter p (range_with_len a n) ≡ filter q (range_with_len a n)
filter_alike p q a zero alike = refl
filter_alike p q a (suc n) alike =
    ap₂ (λ b xs. cond b (a ∷ xs) xs) (alike a (omega arith)) (filter_alike p q (a + 1) n (λ r h. alike r (omega arith)))

filter_none : (p : ℕ → Bool) (a n : ℕ) → ((r : ℕ) → p r ≡ false) → filter p (range_with_len a n) ≡ []
filter_none p a zero none = refl
filter_none p a (suc n) none = filter_skips p a _ (none a) ∙ filter_none p (a + 1) n none

-- t is the first number that passes p, and q is p without it
record First (p q : ℕ → Bool) (t : ℕ) : Type 0 where
  here : p t ≡ true
  before : (r : ℕ) → r < t → p r ≡ false
  gone : q t ≡ false
  others : (r : ℕ) → (r ≡ t → ⊥) → q r ≡ p r

filter_first : (p q : ℕ → Bool) (t a n : ℕ) → First p q t → a ≤ t → t < a + n → filter p (range_with_len a n) ≡ t ∷ filter q (range_with_len a n)
filter_first p q t a zero first low high = absurd (omega arith)
filter_first p q t a (suc n) first low high =
    ⊎_elim
    (λ same.
    let rest = filter_alike p q (a + 1) n (λ r h. sym (first.others r (λ e. omega arith))) in
    filter_takes p a _ (ap p same ∙ first.here) ∙ ap₂ (λ x xs. x ∷ xs) same (rest ∙ sym (filter_skips q a _ (ap q same ∙ first.gone))))
    (λ apart.
    let none = first.before a (omega arith) in
    filter_skips p a _ none ∙ filter_first p q t (a + 1) n first (omega arith) (omega arith) ∙ ap (λ xs. t ∷ xs) (sym (filter_skips q a _ (first.others a apart ∙ none))))
    (cases_eq a t)

-- what holds of each number that passes holds of each that is left, and back
each_filtered : (P : ℕ → Type 0) (p : ℕ → Bool) (a n : ℕ) → ((r : ℕ) → r < a + n → p r ≡ true → P r) → All P (filter p (range_with_len a n))
each_filtered P p a zero all = tt
each_filtered P p a (suc n) all =
    let rest = each_filtered P p (a + 1) n (λ r h. all r (omega arith)) in
    ⊎_elim
    (λ taken. subst (All P) (sym (filter_takes p a _ taken)) (all a (omega arith) taken, rest))
    (λ left. subst (All P) (sym (filter_skips p a _ left)) rest)
    (cases_Bool (p a))

of_each_filtered : (P : ℕ → Type 0) (p : ℕ → Bool) (a n : ℕ) → All P (filter p (range_with_len a n)) → (r : ℕ) → a ≤ r → r < a + n → p r ≡ true → P r
of_each_filtered P p a zero all r low high h = absurd (omega arith)
of_each_filtered P p a (suc n) all r low high h =
    ⊎_elim
    (λ same. subst P same (subst (All P) (filter_takes p a _ (ap p same ∙ h)) all).0)
    (λ apart. of_each_filtered P p (a + 1) n (rest (cases_Bool (p a))) r (omega arith) (omega arith) h)
    (cases_eq a r)
  where
    rest : (p a ≡ true) ⊎ (p a ≡ false) → All P (filter p (range_with_len (a + 1) n))
    rest (inl taken) = (subst (All P) (filter_takes p a _ taken) all).1
    rest (inr left) = subst (All P) (filter_skips p a _ left) all

-- ---- members
pub none_left : members_of 0 ≡ []
unfolding members_of
none_left = filter_none (has 0) 0 32 none_has

-- the lowest comes first, and then come those of the set without it
pub lowest_first : (n : ℕ) → 0 < n → n < 2 ^ 32 → members_of n ≡ trailing_zeros w32 n ∷ members_of (bit_xor n (1 * 2 ^ trailing_zeros w32 n % 2 ^ 32))
unfolding members_of
lowest_first n some small =
    let lowest = bit_at-trailing_zeros w32 n some small in
    let t : ℕ = trailing_zeros w32 n in
    let rest : ℕ = bit_xor n (2 ^ t) in
    let gone : bit_at rest t ≡ 0 = omega (arith, bit_at_xor n (2 ^ t) t, bit_at-pow_same t, lowest.1) in
    let taken = filter_first (has n) (has rest) t 0 32 (record { here = eq-eqb _ 1 lowest.1; before = λ r h. ap (λ b. eqb b 1) (lowest.2 r h); gone = ap (λ b. eqb b 1) gone; others = λ r apart. ap (λ b. eqb b 1) (kept t r apart) }) (omega arith) (omega arith) in
    taken ∙ ap (λ m. t ∷ filter (has (bit_xor n m)) (range_with_len 0 32)) (sym (one_shl t 32 lowest.0))
  where
    kept : (t r : ℕ) → (r ≡ t → ⊥) → bit_at (bit_xor n (2 ^ t)) r ≡ bit_at n r
    kept t r apart = omega (arith, bit_at_xor n (2 ^ t) r, bit_at-pow_other t r apart)

-- what holds of each member holds of each that is listed, and back
pub each_member : (P : ℕ → Type 0) (n : ℕ) → ((r : ℕ) → has n r ≡ true → P r) → All P (members_of n)
unfolding members_of
each_member P n all = each_filtered P (has n) 0 32 (λ r h. all r)

pub of_each_member : (P : ℕ → Type 0) (n : ℕ) → n < 2 ^ 32 → All P (members_of n) → (r : ℕ) → has n r ≡ true → P r
unfolding members_of
of_each_member P n small all r h =
    ⊎_elim
    (λ low. of_each_filtered P (has n) 0 32 all r (omega arith) low h)
    (λ high. absurd (omega (arith, bit_at_above n 32 r small high, eqb-true (bit_at n r) 1 h)))
    (cases_lt r 32)

pub member_small : (n t : ℕ) (ts : List ℕ) → members_of n ≡ t ∷ ts → t < 32
unfolding members_of
member_small n t ts e =
    (subst (All (λ r. r < 32)) e (each_filtered (λ r. r < 32) (has n) 0 32 (λ r low h. low))).0

-- ---- a test of the members one after the other
some_listed : (p q : ℕ → Bool) (xs : List ℕ) → All (λ r. p r ≡ true) xs → list_any q xs ≡ true → (r : ℕ) × (p r ≡ true) × (q r ≡ true)
some_listed p q [] all any = absurd (both_ways false refl any)
some_listed p q (x ∷ xs) all any = ⊎_elim (λ here. (x, all.0, here)) (some_listed p q xs all.1) (or_cases (q x) _ any)

none_listed : (q : ℕ → Bool) (xs : List ℕ) → list_any q xs ≡ false → All (λ r. q r ≡ false) xs
none_listed q [] none = tt
none_listed q (x ∷ xs) none = let both = or_parts (q x) _ none in (both.0, none_listed q xs both.1)

-- sets share a member where the test of the other finds one
pub share_listed : (a b : ℕ) → a < 2 ^ 32 → share a b ≡ list_any (has b) (members_of a)
share_listed a b small =
    ⊎_elim
    (λ any.
    let (r, ha, hb) = some_listed (has a) (has b) (members_of a) (each_member _ a (λ r h. h)) any in
    share_from a b r ha hb ∙ sym any)
    (λ none. false_from_ne_true _ (apart none) ∙ sym none)
    (cases_Bool (list_any (has b) (members_of a)))
  where
    apart : list_any (has b) (members_of a) ≡ false → share a b ≡ true → ⊥
    apart none some =
        let (r, ha, hb) = shared a b some in
        both_ways _ (of_each_member (λ r. has b r ≡ false) a small (none_listed (has b) _ none) r ha) hb
