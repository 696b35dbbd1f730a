-- Orders of security levels, and their laws. Meets stand apart from the order: to compare needs none. Assumes nothing.
use Rattle.std.specs.Prelude.{◌≡◌, ℕ, ◌<◌, ◌≤◌, Bool, true, false, ◌&&◌, nat_lt}

-- how many levels there are, numbered from 0, and whether one is at or below another
pub record Order : Type 0 where
  pub count : ℕ
  pub below : ℕ → ℕ → Bool

-- 1 to 16 levels; a number that is none compares with nothing; and the laws of a partial order
pub record Lawful (o : Order) : Type 0 where
  pub some : 1 ≤ o.count
  pub few : o.count ≤ 16
  pub left_inside : (a b : ℕ) → o.below a b ≡ true → a < o.count
  pub right_inside : (a b : ℕ) → o.below a b ≡ true → b < o.count
  pub reflexive : (a : ℕ) → a < o.count → o.below a a ≡ true
  pub transitive : (a b c : ℕ) → o.below a b ≡ true → o.below b c ≡ true → o.below a c ≡ true
  pub antisymmetric : (a b : ℕ) → o.below a b ≡ true → o.below b a ≡ true → a ≡ b

-- the greatest lower bound of two levels
pub record Meets : Type 0 where
  pub meet : ℕ → ℕ → ℕ

-- the meet is at or below both, and each level at or below both is at or below the meet; with a number that is no level it is 0
pub record Meeting (o : Order) (m : Meets) : Type 0 where
  pub at_left : (a b : ℕ) → a < o.count → b < o.count → o.below (m.meet a b) a ≡ true
  pub at_right : (a b : ℕ) → a < o.count → b < o.count → o.below (m.meet a b) b ≡ true
  pub greatest : (a b c : ℕ) → o.below c a ≡ true → o.below c b ≡ true → o.below c (m.meet a b) ≡ true
  pub outside : (a b : ℕ) → (nat_lt a o.count && nat_lt b o.count) ≡ false → m.meet a b ≡ 0
