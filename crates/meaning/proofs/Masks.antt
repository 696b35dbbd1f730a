-- Laws of masks as sets. A bit of the result depends on the same bit of the operands, so each law goes bit by bit. Assumes nothing.
use Rattle.std.proofs.Common.{◌≡◌, ℕ, zero, suc, ◌+◌, ◌*◌, ◌/◌, ◌%◌, ◌≤◌, min, sym, ap, ◌∙◌, arith}
use lib.Bits.{bit_and, and_step, and_comm, and_zero_l}

and_half : (a b : ℕ) → bit_and a b / 2 ≡ bit_and (a / 2) (b / 2)
and_half a b = omega (arith, and_step a b)

and_odd : (a b : ℕ) → bit_and a b % 2 ≡ min (a % 2) (b % 2)
and_odd a b = omega (arith, and_step a b)

-- n is at least a
assoc_to : (n a b c : ℕ) → a ≤ n → bit_and (bit_and a b) c ≡ bit_and a (bit_and b c)
assoc_to zero a b c h =
    let none : a ≡ 0 = omega arith in
    (λ i. bit_and (bit_and (none i) b) c) ∙ (λ i. bit_and (and_zero_l b i) c) ∙ and_zero_l c ∙ sym ((λ i. bit_and (none i) (bit_and b c)) ∙ and_zero_l (bit_and b c))
assoc_to (suc n) a b c h =
    let less : a / 2 ≤ n = omega arith in
    let halves : bit_and (bit_and a b / 2) (c / 2) ≡ bit_and (a / 2) (bit_and b c / 2) = ap (λ x. bit_and x (c / 2)) (and_half a b) ∙ assoc_to n (a / 2) (b / 2) (c / 2) less ∙ ap (bit_and (a / 2)) (sym (and_half b c)) in
    let odds : min (bit_and a b % 2) (c % 2) ≡ min (a % 2) (bit_and b c % 2) = omega (arith, and_odd a b, and_odd b c) in
    and_step (bit_and a b) c ∙ (λ i. halves i * 2 + odds i) ∙ sym (and_step a (bit_and b c))

pub and_assoc : (a b c : ℕ) → bit_and (bit_and a b) c ≡ bit_and a (bit_and b c)
and_assoc a b c = assoc_to a a b c (omega arith)

self_to : (n a : ℕ) → a ≤ n → bit_and a a ≡ a
self_to zero a h = let none : a ≡ 0 = omega arith in (λ i. bit_and (none i) a) ∙ and_zero_l a ∙ sym none
self_to (suc n) a h = omega (arith, and_step a a, self_to n (a / 2) (omega arith))

pub and_self : (a : ℕ) → bit_and a a ≡ a
and_self a = self_to a a (omega arith)

-- inclusion: a is within b where a and b together are a
pub within_trans : (a b c : ℕ) → bit_and a b ≡ a → bit_and b c ≡ b → bit_and a c ≡ a
within_trans a b c ab bc = ap (λ x. bit_and x c) (sym ab) ∙ and_assoc a b c ∙ ap (bit_and a) bc ∙ ab

pub within_antisym : (a b : ℕ) → bit_and a b ≡ a → bit_and b a ≡ b → a ≡ b
within_antisym a b ab ba = sym ab ∙ and_comm a b ∙ ba

-- what both have is within each, and whatever is within both is within it
pub and_left : (a b : ℕ) → bit_and (bit_and a b) a ≡ bit_and a b
and_left a b = and_assoc a b a ∙ ap (bit_and a) (and_comm b a) ∙ sym (and_assoc a a b) ∙ ap (λ x. bit_and x b) (and_self a)

pub and_right : (a b : ℕ) → bit_and (bit_and a b) b ≡ bit_and a b
and_right a b = and_assoc a b b ∙ ap (bit_and a) (and_self b)

pub and_greatest : (a b c : ℕ) → bit_and c a ≡ c → bit_and c b ≡ c → bit_and c (bit_and a b) ≡ c
and_greatest a b c ca cb = sym (and_assoc c a b) ∙ ap (λ x. bit_and x b) ca ∙ cb
