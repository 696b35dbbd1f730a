use Rattle.std.proofs.Common.{◌≡◌, map, drop}
use Rattle.meaning.specs.Flow as meant
use Rattle.book.specs.Means.{code_of, slot_means}
use Rattle.verdict.proofs.gather.read_for.Given as goal

abbrev pub invariant-loop-slot : goal.invariant-loop-slot
invariant-loop-slot l =
    meant.read_for l.target l.set (map (slot_means (code_of l.action.book.now)) (drop l.slot-index l.slot-items)) ≡ meant.read_for l.target l.initial.set (map (slot_means (code_of l.action.book.now)) l.slot-items)
