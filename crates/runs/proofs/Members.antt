-- Members of masks. Bit r of a sum of sets is that of one of them, of what two share that of both, and a power of 2 has one bit.
-- Assumes nothing.
use Rattle.std.proofs.Common.{◌≡◌, ℕ, zero, suc, ◌+◌, ◌-◌, ◌/◌, ◌%◌, ◌^◌, ◌<◌, ◌≤◌, min, max, Bool, true, false, ◌&&◌, ◌||◌, eqb, ◌⊎◌, sym, refl, ap, ◌∙◌, inl, inr, ⊎_elim, add_comm, zero-add, div-one, arith, pow_pos}
use native.Mathlib.Nat.{div-eq_of_lt}
use lib.Bits.{bit_and, bit_or, and_step, or_step, and_shr, or_shr}
use lib.Pow.{pow-lt}
use Rattle.std.proofs.lemmas.Nat.{pow-add, shl-shr, shr-shr}
use Rattle.std.proofs.lemmas.Bool.{and_parts, or_cases, or_left, or_right, eqb-true, eqb-false, ne_eqb, cases_Bool, cases_lt, cases_eq, not-true, both_ways, not_from_false}
use Rattle.std.proofs.lemmas.Bool.Decides.{nat_tests}
use Rattle.meaning.specs.Flow.{share}
use Rattle.meaning.specs.Sets.{has, with_member, within, under}

or_odd : (a b : ℕ) → bit_or a b % 2 ≡ max (a % 2) (b % 2)
or_odd a b = omega (arith, or_step a b)

and_odd : (a b : ℕ) → bit_and a b % 2 ≡ min (a % 2) (b % 2)
and_odd a b = omega (arith, and_step a b)

one_of : (x y : ℕ) → x < 2 → y < 2 → eqb (max x y) 1 ≡ (eqb x 1 || eqb y 1)
one_of x y hx hy = grind (arith, nat_tests)

both_of : (x y : ℕ) → x < 2 → y < 2 → eqb (min x y) 1 ≡ (eqb x 1 && eqb y 1)
both_of x y hx hy = grind (arith, nat_tests)

pub has_or : (a b r : ℕ) → has (bit_or a b) r ≡ (has a r || has b r)
has_or a b r =
    let x = a / 2 ^ r in
    let y = b / 2 ^ r in
    ap (λ n. eqb (n % 2) 1) (or_shr a b r) ∙ ap (λ n. eqb n 1) (or_odd x y) ∙ one_of (x % 2) (y % 2) (omega arith) (omega arith)

pub has_and : (a b r : ℕ) → has (bit_and a b) r ≡ (has a r && has b r)
has_and a b r =
    let x = a / 2 ^ r in
    let y = b / 2 ^ r in
    ap (λ n. eqb (n % 2) 1) (and_shr a b r) ∙ ap (λ n. eqb n 1) (and_odd x y) ∙ both_of (x % 2) (y % 2) (omega arith) (omega arith)

power_of : (r k : ℕ) → 2 ^ (k + r) / 2 ^ r ≡ 2 ^ k
power_of r k = ap (λ n. n / 2 ^ r) (pow-add 2 k r) ∙ shl-shr (2 ^ k) r

-- a power of 2 has its own bit alone
pub has_itself : (r : ℕ) → has (2 ^ r) r ≡ true
has_itself r =
    let one : 2 ^ r / 2 ^ r ≡ 1 = ap (λ n. 2 ^ n / 2 ^ r) (sym (zero-add r)) ∙ power_of r 0 in
    ap (λ n. eqb (n % 2) 1) one

even_power : (k : ℕ) → 2 ^ (k + 1) % 2 ≡ 0
even_power k = omega (arith, pow-add 2 k 1)

small_over : (a n : ℕ) → a < n → a / n ≡ 0
small_over a n h = div-eq_of_lt h

pub has_other : (i r : ℕ) → (i ≡ r → ⊥) → has (2 ^ i) r ≡ false
has_other i r apart =
    ⊎_elim
    (λ above.
    let split : 2 ^ i / 2 ^ r ≡ 2 ^ (i - r - 1 + 1) = ap (λ n. 2 ^ n / 2 ^ r) (omega arith) ∙ power_of r (i - r - 1 + 1) in
    ap (λ n. eqb (n % 2) 1) split ∙ ap (λ n. eqb n 1) (even_power (i - r - 1)))
    (λ below. ap (λ n. eqb (n % 2) 1) (small_over (2 ^ i) (2 ^ r) (pow-lt (omega arith))))
    (cases_lt r i)

pub only_itself : (i r : ℕ) → has (2 ^ i) r ≡ true → i ≡ r
only_itself i r h = ⊎_elim (λ e. e) (λ apart. absurd (both_ways _ (has_other i r apart) h)) (cases_eq i r)

-- with one more member
pub has_new : (m r : ℕ) → has (with_member m r) r ≡ true
has_new m r = has_or m (2 ^ r) r ∙ or_right (has m r) _ (has_itself r)

pub has_still : (m i r : ℕ) → has m r ≡ true → has (with_member m i) r ≡ true
has_still m i r h = has_or m (2 ^ i) r ∙ or_left _ (has (2 ^ i) r) h

pub has_cases : (m i r : ℕ) → has (with_member m i) r ≡ true → (has m r ≡ true) ⊎ (i ≡ r)
has_cases m i r h =
    ⊎_elim inl (λ e. inr (only_itself i r e)) (or_cases (has m r) (has (2 ^ i) r) (sym (has_or m (2 ^ i) r) ∙ h))

pub has_beside : (m i r : ℕ) → (i ≡ r → ⊥) → has (with_member m i) r ≡ has m r
has_beside m i r apart = has_or m (2 ^ i) r ∙ ap (λ t. has m r || t) (has_other i r apart) ∙ or_none (has m r)
  where
    or_none : (t : Bool) → (t || false) ≡ t
    or_none true = refl
    or_none false = refl

pub has_alike : (m n i r : ℕ) → has m r ≡ has n r → has (with_member m i) r ≡ has (with_member n i) r
has_alike m n i r e = has_or m (2 ^ i) r ∙ ap (λ t. t || has (2 ^ i) r) e ∙ sym (has_or n (2 ^ i) r)

-- zero has no member
pub none_has : (r : ℕ) → has 0 r ≡ false
none_has r = ap (λ n. eqb (n % 2) 1) (small_over 0 (2 ^ r) (pow_pos r))

-- each member of a set that is within another is the other's
pub within_has : (a b r : ℕ) → within a b ≡ true → has a r ≡ true → has b r ≡ true
within_has a b r inside h =
    let same = eqb-true (bit_and a b) a inside in
    (and_parts (has a r) (has b r) (sym (has_and a b r) ∙ ap (λ m. has m r) same ∙ h)).1

-- each member of a set under n is below n
pub under_has : (m n r : ℕ) → under m n ≡ true → has m r ≡ true → r < n
under_has m n r low h =
    ⊎_elim (λ lt. lt)
    (λ beyond.
    let back : n + (r - n) ≡ r = omega arith in
    let none : m / 2 ^ r ≡ 0 = ap (λ k. m / 2 ^ k) (sym back) ∙ sym (shr-shr m n (r - n)) ∙ ap (λ k. k / 2 ^ (r - n)) (eqb-true (m / 2 ^ n) 0 low) ∙ small_over 0 (2 ^ (r - n)) (pow_pos (r - n)) in
    absurd (both_ways _ (ap (λ k. eqb (k % 2) 1) none) h))
    (cases_lt r n)

-- a set that is not empty has a member; n is at least the set
member_to : (n m : ℕ) → m ≤ n → 1 ≤ m → (r : ℕ) × (has m r ≡ true)
member_to zero m h some = absurd (omega arith)
member_to (suc n) m h some =
    ⊎_elim
    (λ odd. (0, ap (λ k. eqb (k % 2) 1) (div-one m) ∙ odd))
    (λ even.
    let ne = eqb-false (m % 2) 1 even in
    let half = member_to n (m / 2) (omega arith) (omega arith) in
    (half.0 + 1, ap (λ k. eqb (m / k % 2) 1) (ap (λ e. 2 ^ e) (add_comm half.0 1)) ∙ ap (λ k. eqb (k % 2) 1) (sym (shr-shr m 1 half.0)) ∙ half.1))
    (cases_Bool (eqb (m % 2) 1))

pub shared : (a b : ℕ) → share a b ≡ true → (r : ℕ) × (has a r ≡ true) × (has b r ≡ true)
shared a b h =
    let some = eqb-false (bit_and a b) 0 (not-true _ h) in
    let found = member_to (bit_and a b) (bit_and a b) (omega arith) (omega arith) in
    let parts = and_parts (has a found.0) _ (sym (has_and a b found.0) ∙ found.1) in
    (found.0, parts.0, parts.1)

pub share_from : (a b r : ℕ) → has a r ≡ true → has b r ≡ true → share a b ≡ true
share_from a b r ha hb =
    let both : has (bit_and a b) r ≡ true = has_and a b r ∙ (λ i. ha i && hb i) in
    not_from_false _ (ne_eqb (bit_and a b) 0 (λ none. both_ways _ (none_has r) (ap (λ m. has m r) (sym none) ∙ both)))

-- sets that agree on the members of a share as much with a
pub share_same : (a b c : ℕ) → ((r : ℕ) → has a r ≡ true → has b r ≡ has c r) → share a b ≡ share a c
share_same a b c agree = same_tests (share a b) (share a c) (over b c agree) (over c b (λ r h. sym (agree r h)))
  where
    same_tests : (x y : Bool) → (x ≡ true → y ≡ true) → (y ≡ true → x ≡ true) → x ≡ y
    same_tests true y f g = sym (f refl)
    same_tests false y f g = ⊎_elim (λ e. g e ∙ sym e) sym (cases_Bool y)

    over : (x y : ℕ) → ((r : ℕ) → has a r ≡ true → has x r ≡ has y r) → share a x ≡ true → share a y ≡ true
    over x y same h = let (r, ha, hx) = shared a x h in share_from a y r ha (sym (same r ha) ∙ hx)
