-- Invariants of devices: which clauses hold, and the first that does not. Assumes nothing.
use Rattle.std.specs.Prelude.{ℕ, zero, suc, ◌+◌, Bool, cond, not, ◌&&◌, length, Some, None, Option, ◌==◌, slice_index_or}
use Rattle.meaning.specs.Book.{Book, Clause}
use Rattle.meaning.specs.Expression.{truth, reads}
use Rattle.meaning.specs.Flow.{share, no_clause}
use Rattle.meaning.specs.WellFormed.{every}
use Rattle.runs.specs.Table.{Table, value_at}

abbrev pub holds : Table → Clause → Bool
holds T x = truth (value_at T x.device x.device x.test)

-- every clause of every device holds
abbrev pub all_hold : Book → Table → Bool
all_hold b T = every (holds T) b.clauses

-- a clause of the device d that reads one of the resources m
abbrev pub concerns : ℕ → ℕ → Clause → Bool
concerns d m x = x.device == d && share (reads 0 x.test) m

abbrev pub clause_at : Book → ℕ → Clause
clause_at b j = slice_index_or b.clauses j no_clause

-- the first of the n numbers from i on that p picks
unfoldable pub first_where : (ℕ → Bool) → ℕ → ℕ → Option ℕ
first_where p i zero = None
first_where p i (suc n) = cond (p i) (Some i) (first_where p (i + 1) n)

-- the first of the clauses that p picks which does not hold
abbrev pub failing : Book → Table → (Clause → Bool) → Option ℕ
failing b T p = first_where (λ j. p (clause_at b j) && not (holds T (clause_at b j))) 0 (length b.clauses)
