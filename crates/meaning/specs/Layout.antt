-- Where the sections of a file lie, by its counts and masks as they stand. Assumes nothing.
use Rattle.std.specs.Prelude.{ℕ, zero, suc, ◌+◌, ◌-◌, ◌*◌, List, length, count_ones}
use Rattle.meaning.specs.Bytes.{byte_at, four_at}

-- how many ones n masks have together, the first at p
unfoldable pub ones_at : List ℕ → ℕ → ℕ → ℕ
ones_at bs p zero = 0
ones_at bs p (suc n) = count_ones (four_at bs p) + ones_at bs (p + 4) n

-- the counts
pub record Layout : Type 0 where
  pub devices : ℕ
  pub resources : ℕ
  pub rules : ℕ
  pub clauses : ℕ
  pub cells : ℕ
  pub size : ℕ

abbrev pub cells_from : Layout → ℕ
cells_from l = 32 + l.resources

abbrev pub starts_from : Layout → ℕ
starts_from l = cells_from l + 4 * l.devices

abbrev pub rules_from : Layout → ℕ
rules_from l = starts_from l + 4 * l.cells

abbrev pub clauses_from : Layout → ℕ
clauses_from l = rules_from l + 53 * l.rules

abbrev pub code_from : Layout → ℕ
code_from l = clauses_from l + 5 * l.clauses

-- how many bytes of code there are
abbrev pub room : Layout → ℕ
room l = l.size - code_from l

abbrev pub layout : List ℕ → Layout
layout bs =
    record { devices = byte_at bs 4; resources = byte_at bs 5; rules = byte_at bs 6; clauses = byte_at bs 7; cells = ones_at bs (32 + byte_at bs 5) (byte_at bs 4); size = length bs }
