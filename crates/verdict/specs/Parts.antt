-- What the sets of a part mean. Assumes nothing.
use Rattle.std.specs.Prelude.{◌≡◌, ℕ, cond, ◌==◌}
use Rattle.meaning.specs.Book.{Book, Rule}
use Rattle.meaning.specs.Flow.{both_reads, set_by, slots_of, watched}
use Rattle.verdict.specs.declared.part_sets.PartSets.{PartSets}

-- the sets of a part
pub record SetsOf (b : Book) (r : Rule) (p : ℕ) (x : PartSets) : Type 0 where
  pub targets : x.targets ≡ set_by 0 (slots_of r p)
  pub events : x.events ≡ r.events
  pub condition : x.condition ≡ cond (p == 1) (both_reads 0 r.condition) 0
  pub watched : x.watched ≡ watched b r p 0 b.clauses
