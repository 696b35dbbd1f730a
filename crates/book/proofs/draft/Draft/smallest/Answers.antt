-- Each part of being well formed computes at the smallest book.
use Rattle.std.proofs.Common.{refl, arith}
use Rattle.std.proofs.lemmas.Nat.{ones-le}
use Rattle.meaning.specs.File.{count_cells}
use Rattle.meaning.specs.WellFormed.{every}
use Rattle.book.proofs.draft.Draft.smallest.Goals as goal

pub invariant_of-result : goal.invariant_of-result
unfolding count_cells every
invariant_of-result c =
    record { right = ((omega arith, omega arith, omega arith, omega arith), (omega arith, omega arith), (refl, refl, omega (arith, ones-le 0 0 (omega arith)), refl), (refl, refl, refl, refl)) }
