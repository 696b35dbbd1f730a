-- The members of a mask are counted from below, and each adds one. Assumes nothing.
use Rattle.std.proofs.Common.{◌≡◌, ℕ, ◌+◌, ◌-◌, ◌*◌, ◌/◌, ◌%◌, ◌^◌, ◌<◌, ◌≤◌, true, false, eqb, refl, ap, ◌∙◌, arith, pow_pos, pow_mono}
use native.Mathlib.Nat.{div-eq_of_lt}
use lib.Bits.{bit_and}
use lib.Count.{ones, ones_cat}
use Rattle.std.proofs.lemmas.Nat.{one_shl, and_mask, mod-pow-add, mod_below, shr_split}
use Rattle.std.proofs.lemmas.Bool.{eqb-true}
use Rattle.meaning.specs.Sets.{has}

-- a mask of n bits has no member at n or beyond
pub none_beyond : (m n i : ℕ) → m < 2 ^ n → n ≤ i → has m i ≡ false
none_beyond m n i fits beyond =
    let small : m < 2 ^ i = omega (arith, pow_mono beyond) in
    ap (λ x. eqb (x % 2) 1) (div-eq_of_lt small)

-- the members from i on, of the first k + i, beside those below i
more_ones : (m k i : ℕ) → ones (m % 2 ^ (k + i)) ≡ ones (m / 2 ^ i % 2 ^ k) + ones (m % 2 ^ i)
more_ones m k i = ap ones (mod-pow-add m k i) ∙ ones_cat i _ _ (mod_below m (2 ^ i) (pow_pos i))

pub ones_grow : (m i j : ℕ) → i ≤ j → ones (m % 2 ^ i) ≤ ones (m % 2 ^ j)
ones_grow m i j h =
    let at : j - i + i ≡ j = omega arith in
    omega (arith, more_ones m (j - i) i, ap (λ k. ones (m % 2 ^ k)) at)

pub ones_within : (m i : ℕ) → ones (m % 2 ^ i) ≤ ones m
ones_within m i =
    omega (arith, ones_cat i (m / 2 ^ i) (m % 2 ^ i) (mod_below m (2 ^ i) (pow_pos i)), ap ones (shr_split m i))

one_one : ones 1 ≡ 1
unfolding ones
one_one = refl

-- a member adds one
pub ones_member : (m i : ℕ) → has m i ≡ true → ones (m % 2 ^ (1 + i)) ≡ 1 + ones (m % 2 ^ i)
ones_member m i h =
    let bit = eqb-true (m / 2 ^ i % 2) 1 h in
    more_ones m 1 i ∙ ap (λ x. ones x + ones (m % 2 ^ i)) bit ∙ ap (λ x. x + ones (m % 2 ^ i)) one_one

-- the ones below a bit, as a mask of 32 bits is cut by it
pub ones_below : (m i : ℕ) → i < 32 → ones (bit_and m (1 * 2 ^ i % 4294967296 - 1)) ≡ ones (m % 2 ^ i)
ones_below m i low = ap ones (ap (λ bit. bit_and m (bit - 1)) (one_shl i 32 low) ∙ and_mask m i)
