-- A number is its bytes, and bytes are the number that they make. Assumes nothing.
use Rattle.std.proofs.Common.{◌≡◌, ℕ, ◌+◌, ◌*◌, ◌/◌, ◌%◌, ◌<◌, List, [], ◌∷◌, get_or, arith}
use Rattle.meaning.specs.Bytes.{two_at, four_at, two, four, Bytes}

pub two_below : (bs : List ℕ) (p : ℕ) → Bytes bs → two_at bs p < 65536
two_below bs p fit = omega (arith, fit p, fit (p + 1))

pub four_below : (bs : List ℕ) (p : ℕ) → Bytes bs → four_at bs p < 4294967296
four_below bs p fit = omega (arith, fit p, fit (p + 1), fit (p + 2), fit (p + 3))

-- the bytes of the number that two bytes make are those two
pub two_high : (a b : ℕ) → b < 256 → (256 * a + b) / 256 ≡ a
two_high a b h = omega arith

pub two_low : (a b : ℕ) → b < 256 → (256 * a + b) % 256 ≡ b
two_low a b h = omega arith

pub two_of : (bs : List ℕ) (p : ℕ) → Bytes bs → two (two_at bs p) ≡ get_or bs p 0 ∷ get_or bs (p + 1) 0 ∷ []
two_of bs p fit = let h = fit (p + 1) in λ i. two_high (get_or bs p 0) (get_or bs (p + 1) 0) h i ∷ two_low (get_or bs p 0) (get_or bs (p + 1) 0) h i ∷ []

four_1 : (a b c d : ℕ) → b < 256 → c < 256 → d < 256 → (16777216 * a + 65536 * b + 256 * c + d) / 16777216 ≡ a
four_1 a b c d hb hc hd = omega arith

four_2 : (a b c d : ℕ) → b < 256 → c < 256 → d < 256 → (16777216 * a + 65536 * b + 256 * c + d) / 65536 % 256 ≡ b
four_2 a b c d hb hc hd = omega arith

four_3 : (a b c d : ℕ) → b < 256 → c < 256 → d < 256 → (16777216 * a + 65536 * b + 256 * c + d) / 256 % 256 ≡ c
four_3 a b c d hb hc hd = omega arith

four_4 : (a b c d : ℕ) → b < 256 → c < 256 → d < 256 → (16777216 * a + 65536 * b + 256 * c + d) % 256 ≡ d
four_4 a b c d hb hc hd = omega arith

pub four_of : (bs : List ℕ) (p : ℕ) → Bytes bs → four (four_at bs p) ≡ get_or bs p 0 ∷ get_or bs (p + 1) 0 ∷ get_or bs (p + 2) 0 ∷ get_or bs (p + 3) 0 ∷ []
four_of bs p fit =
    let a = get_or bs p 0 in
    let b = get_or bs (p + 1) 0 in
    let c = get_or bs (p + 2) 0 in
    let d = get_or bs (p + 3) 0 in
    let hb = fit (p + 1) in
    let hc = fit (p + 2) in
    let hd = fit (p + 3) in
    λ i. four_1 a b c d hb hc hd i ∷ four_2 a b c d hb hc hd i ∷ four_3 a b c d hb hc hd i ∷ four_4 a b c d hb hc hd i ∷ []

-- the number that the bytes of a number make is that number
pub two_from : (n : ℕ) → 256 * (n / 256) + n % 256 ≡ n
two_from n = omega arith

pub four_from : (n : ℕ) → 16777216 * (n / 16777216) + 65536 * (n / 65536 % 256) + 256 * (n / 256 % 256) + n % 256 ≡ n
four_from n = omega arith
