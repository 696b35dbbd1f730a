-- Numbers in a file: each is written with its high byte first. A place past the end reads as 0. Assumes nothing.
use Rattle.std.specs.Prelude.{ℕ, ◌+◌, ◌*◌, ◌/◌, ◌%◌, ◌<◌, List, [], ◌∷◌, take, drop, slice_index}

abbrev pub byte_at : List ℕ → ℕ → ℕ
byte_at bs p = slice_index bs p

-- the number that the two bytes at p make
abbrev pub two_at : List ℕ → ℕ → ℕ
two_at bs p = 256 * slice_index bs p + slice_index bs (p + 1)

-- the number that the four bytes at p make
abbrev pub four_at : List ℕ → ℕ → ℕ
four_at bs p = 16777216 * slice_index bs p + 65536 * slice_index bs (p + 1) + 256 * slice_index bs (p + 2) + slice_index bs (p + 3)

-- the n bytes at p
abbrev pub part : List ℕ → ℕ → ℕ → List ℕ
part bs p n = take n (drop p bs)

-- a number below 65536 as two bytes
abbrev pub two : ℕ → List ℕ
two n = n / 256 ∷ n % 256 ∷ []

-- a number of 32 bits as four bytes
abbrev pub four : ℕ → List ℕ
four n = n / 16777216 ∷ n / 65536 % 256 ∷ n / 256 % 256 ∷ n % 256 ∷ []

-- each number is a byte
abbrev pub Bytes : List ℕ → Type 0
Bytes bs = (i : ℕ) → slice_index bs i < 256
