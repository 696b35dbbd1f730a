-- Starts of the small books: resource 0 is 0 and resource 1 any value, empty lanes, run 0. Assumes nothing.
use Rattle.std.proofs.Common.{◌≡◌, ℕ, zero, suc, ◌<◌, ◌≤◌, true, List, [], ◌∷◌, length, get_or, ℤ, pos, Some, None, refl, arith}
use lib.Count.{ones}
use Rattle.std.proofs.lemmas.Bool.{false≢true}
use Rattle.meaning.specs.Book.{Rule, Clause}
use Rattle.meaning.specs.File.{count_cells}
use Rattle.meaning.specs.Flow.{level, levelled}
use Rattle.meaning.specs.WellFormed.{WellFormed, Ruled, every}
use Rattle.levels.specs.Orders.{ladder}
use Rattle.runs.specs.Clauses.{all_hold}
use Rattle.runs.specs.Lane.{empty_lane}
use Rattle.runs.specs.State.{State}
use Rattle.runs.specs.Table.{Table}
use Rattle.runs.specs.View.{Hosts, Started, SameView}
use Rattle.examples.specs.Books.{low_high}

-- the two cells of device 0, and nothing else
abbrev pub held : ℤ → Table
held y d r = get_or (get_or ((Some (pos 0) ∷ Some y ∷ []) ∷ []) d []) r None

abbrev pub start_with : ℤ → State
start_with y = record { run = 0; table = held y; lanes = λ _. empty_lane }

module _ (rs : List Rule) (cs : List Clause) where
  hosts : (y : ℤ) → Hosts (low_high rs cs) (held y)
  hosts y zero zero d r = refl
  hosts y zero (suc zero) d r = refl
  hosts y zero (suc (suc n)) d r = absurd (omega arith)
  hosts y (suc m) n d r = absurd (omega arith)

  pub started : (y : ℤ) → all_hold (low_high rs cs) (held y) ≡ true → Started (low_high rs cs) (start_with y)
  started y holds = record { hosts = hosts y; holds = holds; empty = λ _. refl; numbered = omega arith }

  -- level 0 does not see resource 1
  cells_alike : (y z : ℤ) (d r : ℕ) → d < 1 → r < 2 → (ladder 2).below (level (low_high rs cs) r) 0 ≡ true → held y d r ≡ held z d r
  cells_alike y z zero zero d r low = refl
  cells_alike y z zero (suc zero) d r low = absurd (false≢true low)
  cells_alike y z zero (suc (suc n)) d r low = absurd (omega arith)
  cells_alike y z (suc m) n d r low = absurd (omega arith)

  pub views_alike : (y z : ℤ) → SameView (ladder 2) (low_high rs cs) 0 (start_with y) (start_with z)
  views_alike y z = record { runs = refl; cells = cells_alike y z; lanes = λ _ _. refl }

  -- a small book is well-formed where its rules and clauses are
  pub well_formed : length rs ≤ 32 → length cs ≤ 32 → Ruled (low_high rs cs) → WellFormed (low_high rs cs)
  unfolding every count_cells ones
  well_formed few_rules few_clauses ruled =
      ((omega arith, omega arith, omega arith, omega arith), (few_rules, few_clauses), (refl, refl, refl, refl), ruled)

  pub levels_inside : levelled (ladder 2) (low_high rs cs) ≡ true
  unfolding every
  levels_inside = refl
