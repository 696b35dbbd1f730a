-- What reading a file into a draft gives: the answer, and the book that the draft then means. Assumes nothing.
use Rattle.std.specs.Prelude.{◌≡◌, ℕ, List, Ok, Err, Result}
use Rattle.fault.specs.declared.fault.Fault.{Fault}
use Rattle.meaning.specs.Book.{Book}
use Rattle.meaning.specs.File.{encoded}
use Rattle.meaning.specs.Reading.{Verdict, reading}
use Rattle.meaning.specs.WellFormed.{WellFormed}

-- done, or the fault
abbrev pub outcome : Result Book Fault → Verdict
outcome (Ok b) = Ok tt
outcome (Err f) = Err f

-- the book that was read, or the one that was there
abbrev pub left : Result Book Fault → Book → Book
left (Ok b) before = b
left (Err f) before = before

pub record Read (bs : List ℕ) (before after : Book) (r : Verdict) : Type 0 where
  -- the answer is that of the checks in their order
  pub answer : r ≡ outcome (reading bs)
  -- the draft means the book read, or what it meant
  pub holds : after ≡ left (reading bs) before
  -- the encoding of a well-formed book is accepted, as that book
  pub accepts : (b : Book) → WellFormed b → bs ≡ encoded b → (r ≡ Ok tt) × (after ≡ b)
  -- what is accepted is the encoding of the book that the draft now means
  pub encodes : r ≡ Ok tt → bs ≡ encoded after
