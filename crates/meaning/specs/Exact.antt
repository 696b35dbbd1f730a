-- The law above reading: a file is accepted exactly where it is the encoding of a well-formed book, and that book is the answer.
-- Assumes nothing.
use Rattle.std.specs.Prelude.{◌≡◌, ℕ, List, Ok}
use Rattle.meaning.specs.Bytes.{Bytes}
use Rattle.meaning.specs.Book.{Book}
use Rattle.meaning.specs.File.{encoded}
use Rattle.meaning.specs.WellFormed.{WellFormed}
use Rattle.meaning.specs.Reading.{reading}

-- what is accepted is the encoding of a well-formed book
abbrev pub Sound : Type 0
Sound = (bs : List ℕ) (b : Book) → Bytes bs → reading bs ≡ Ok b → WellFormed b × (bs ≡ encoded b)

-- the encoding of a well-formed book is accepted, as that book
abbrev pub Complete : Type 0
Complete = (b : Book) → WellFormed b → reading (encoded b) ≡ Ok b

-- so no two files yield one book
abbrev pub Single : Type 0
Single = (bs cs : List ℕ) (b : Book) → Bytes bs → Bytes cs → reading bs ≡ Ok b → reading cs ≡ Ok b → bs ≡ cs
