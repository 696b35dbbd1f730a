use Rattle.std.proofs.Common.{◌≡◌, map, drop}
use Rattle.meaning.specs.Flow as meant
use Rattle.book.specs.Means.{code_of, slot_means}
use Rattle.verdict.proofs.gather.asked.Given as goal

abbrev pub invariant-loop-slot : goal.invariant-loop-slot
invariant-loop-slot l =
    meant.asked_by l.set (map (slot_means (code_of l.action.book.now)) (drop l.slot-index l.slot-items)) ≡ meant.asked_by l.initial.set (map (slot_means (code_of l.action.book.now)) l.slot-items)
