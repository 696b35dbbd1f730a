-- A part of a rule, as the code has it and as it is meant. Assumes nothing.
use Rattle.std.proofs.Common.{◌≡◌, ℕ, ◌<◌, List, refl, arith}
use Rattle.meaning.specs.Flow.{slots_of}
use Rattle.book.specs.declared.part.Part.{Part}
use Rattle.book.specs.declared.part.Part.TheVariants.{Default, Task}
use Rattle.book.specs.declared.rule.Rule.{Rule}
use Rattle.book.specs.Means.{action_means, rule_means}
use Rattle.book.specs.Parts.{number, action_of}

pub number_small : (p : Part) → number p < 2
number_small Default = omega arith
number_small Task = omega arith

-- the assignments of a part of a rule are those of its action
pub part_slots : (code : List ℕ) (r : Rule) (p : Part) → slots_of (rule_means code r) (number p) ≡ action_means code (action_of r p)
part_slots code r Default = refl
part_slots code r Task = refl
