-- A set of devices or of resources is a mask: a number whose bit i, the lowest being bit 0, says that i belongs. Assumes nothing.
use Rattle.std.specs.Prelude.{ℕ, ◌/◌, ◌%◌, ◌^◌, Bool, not, ◌&&◌, ◌==◌, bit_and, bit_or}

-- i belongs to m
abbrev pub has : ℕ → ℕ → Bool
has m i = m / 2 ^ i % 2 == 1

-- i belongs, beside the members of m
abbrev pub with_member : ℕ → ℕ → ℕ
with_member m i = bit_or m (2 ^ i)

-- each member of a is one of b
abbrev pub within : ℕ → ℕ → Bool
within a b = bit_and a b == a

-- each member of m is below n
abbrev pub under : ℕ → ℕ → Bool
under m n = m / 2 ^ n == 0

-- m has a member, and each is below n
abbrev pub some_under : ℕ → ℕ → Bool
some_under m n = not (m == 0) && under m n
