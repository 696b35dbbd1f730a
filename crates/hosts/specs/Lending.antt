-- How many words a word host is to be lent. Assumes nothing.
use Rattle.std.specs.Prelude.{ℕ, cond, Ok, Err, nat_lt}
use Rattle.meaning.specs.Book.{Book}
use Rattle.meaning.specs.File.{count_cells}
use Rattle.meaning.specs.Reading.{Verdict}
use Rattle.runs.specs.Faults.{short_buffer}

-- one for each cell of the book, or more
abbrev pub lendable : Book → ℕ → Verdict
lendable b given =
    cond (nat_lt given (count_cells b.cells)) (Err (short_buffer (count_cells b.cells) given)) (Ok tt)
