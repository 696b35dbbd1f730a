-- What a host keeps whatever is written to it. Assumes nothing.
use Rattle.std.specs.Prelude.{ℕ, List, drop, ℤ}
use Rattle.meaning.specs.File.{count_cells}

-- the masks of its cells; the ghost names of what was lent to it, so that a lender who finds the same name again has the words that the host
-- held last; and the words that are no cell's
pub record Frame : Type 0 where
  pub masks : List ℕ
  pub lent : List ℕ
  pub beyond : List ℤ

-- the words past those of the cells
abbrev pub past_cells : List ℕ → List ℤ → List ℤ
past_cells cells words = drop (count_cells cells) words
