-- A set is its members. Assumes nothing.
use Rattle.std.proofs.Common.{◌≡◌, ℕ, zero, suc, ◌+◌, ◌/◌, ◌%◌, ◌^◌, ◌≤◌, eqb, sym, ap, ◌∙◌, add_comm, div-one, arith}
use Rattle.std.proofs.lemmas.Nat.{shr-shr}
use Rattle.std.proofs.lemmas.Bool.Decides.{nat_tests}
use Rattle.meaning.specs.Sets.{has}

-- one bit further up
has_half : (n r : ℕ) → has n (r + 1) ≡ has (n / 2) r
has_half n r =
    ap (λ k. eqb (n / k % 2) 1) (ap (λ e. 2 ^ e) (add_comm r 1)) ∙ ap (λ k. eqb (k % 2) 1) (sym (shr-shr n 1 r))

has_first : (n : ℕ) → has n 0 ≡ eqb (n % 2) 1
has_first n = ap (λ k. eqb (k % 2) 1) (div-one n)

-- sets with the same members are the same; n is at least both
same_to : (n a b : ℕ) → a ≤ n → b ≤ n → ((r : ℕ) → has a r ≡ has b r) → a ≡ b
same_to zero a b ha hb same = omega arith
same_to (suc n) a b ha hb same =
    let halves = same_to n (a / 2) (b / 2) (omega arith) (omega arith) (λ r. sym (has_half a r) ∙ same (r + 1) ∙ has_half b r) in
    let odds : eqb (a % 2) 1 ≡ eqb (b % 2) 1 = sym (has_first a) ∙ same 0 ∙ has_first b in
    let first : a % 2 ≡ b % 2 = grind (arith, nat_tests) in
    omega arith

pub same_members : (a b : ℕ) → ((r : ℕ) → has a r ≡ has b r) → a ≡ b
same_members a b same = same_to (a + b) a b (omega arith) (omega arith) same
