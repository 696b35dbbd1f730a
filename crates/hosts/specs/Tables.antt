-- The tables of hosts: which cells are there, and where the value of each stands in a list. Assumes nothing.
use Rattle.std.specs.Prelude.{ℕ, ◌+◌, ◌*◌, Bool, cond, ◌&&◌, List, length, ℤ, pos, Some, None, nat_lt, slice_index_or}
use Rattle.meaning.specs.Book.{Book}
use Rattle.runs.specs.Table.{Table}
use Rattle.hosts.specs.Words.{has_cell, word}

-- where a cell is there, the value at its place
abbrev pub laid_out : (ℕ → ℕ → Bool) → (ℕ → ℕ → ℕ) → List ℤ → Table
laid_out there place values d r = cond (there d r) (Some (slice_index_or values (place d r) (pos 0))) None

-- the start of each cell of a book
abbrev pub at_start : Book → Table
at_start b = laid_out (has_cell b.cells) (word b.cells) b.starts

-- 32 places for each device
abbrev pub in_rows : List ℕ → List ℤ → Table
in_rows cells values = laid_out (λ d r. nat_lt r 32 && has_cell cells d r) (λ d r. 32 * d + r) values

-- the cells whose word is among the first n
abbrev pub reached : List ℕ → ℕ → ℕ → ℕ → Bool
reached cells n d r = has_cell cells d r && nat_lt (word cells d r) n

-- a word for each cell; the cells past the words are not there
abbrev pub in_words : List ℕ → List ℤ → Table
in_words cells words = laid_out (reached cells (length words)) (word cells) words
