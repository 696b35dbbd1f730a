use Rattle.std.proofs.Common.{◌≡◌, map, drop}
use Rattle.meaning.specs.Book as meant
use Rattle.book.specs.Means.{slot_means}
use Rattle.book.specs.Plan.{code_in}
use Rattle.book.proofs.file.File.gathered.Given as goal

abbrev pub invariant-loop-slot : goal.invariant-loop-slot
invariant-loop-slot l =
    meant.gathered l.targets l.set (map (slot_means (code_in l.self.bytes.now l.self.layout)) (drop l.slot-index l.slot-items)) ≡ meant.gathered l.targets l.initial.set (map (slot_means (code_in l.self.bytes.now l.self.layout)) l.slot-items)
