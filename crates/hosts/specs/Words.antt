-- The cells that some masks have, and the word of each: the number of cells that come before it, by device and then by resource. Assumes nothing.
use Rattle.std.specs.Prelude.{ℕ, ◌+◌, ◌%◌, ◌^◌, Bool, List, take, count_ones, slice_index}
use Rattle.meaning.specs.File.{count_cells}
use Rattle.meaning.specs.Sets.{has}

-- the device d has a cell of r
abbrev pub has_cell : List ℕ → ℕ → ℕ → Bool
has_cell cells d r = has (slice_index cells d) r

abbrev pub word : List ℕ → ℕ → ℕ → ℕ
word cells d r = count_cells (take d cells) + count_ones (slice_index cells d % 2 ^ r)
