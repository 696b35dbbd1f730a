-- What a layout of the code means. Assumes nothing.
use Rattle.std.specs.Prelude.{◌≡◌, ℕ, ◌+◌, ◌*◌, List, length, drop, Ok}
use Rattle.book.specs.declared.layout.Layout.{Layout}
use Rattle.meaning.specs.Bytes.{two_at}
use Rattle.meaning.specs.Layout as meant
use Rattle.meaning.specs.Layout.{layout, code_from}
use Rattle.meaning.specs.Reading.{first_checked, counts_checked, sections_checked}

-- the counts, of a file of n bytes
abbrev pub sized : ℕ → Layout → meant.Layout
sized n l =
    record { devices = l.devices; resources = l.resources; rules = l.rules; clauses = l.clauses; cells = l.cells; size = n }

-- the code ends the file
abbrev pub plan : Layout → meant.Layout
plan l = sized (32 + l.resources + 4 * l.devices + 4 * l.cells + 53 * l.rules + 5 * l.clauses + l.room) l

-- the code of a file
abbrev pub code_in : List ℕ → Layout → List ℕ
code_in bs l = drop (code_from (plan l)) bs

-- the counts in the header of a file are right, and l has them
pub record Counted (bs : List ℕ) (l : Layout) : Type 0 where
  pub counts : counts_checked (layout bs) ≡ Ok tt
  pub are : sized (length bs) l ≡ layout bs
  pub room : l.room ≡ two_at bs 30

-- the header of a file is right, and l is its layout
pub record Framed (bs : List ℕ) (l : Layout) : Type 0 where
  pub first : first_checked bs ≡ Ok tt
  pub counts : counts_checked (layout bs) ≡ Ok tt
  pub sections : sections_checked bs (layout bs) ≡ Ok tt
  pub is : plan l ≡ layout bs
