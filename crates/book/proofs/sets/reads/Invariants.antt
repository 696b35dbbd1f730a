use Rattle.std.proofs.Common.{◌≡◌, true}
use Rattle.meaning.specs.Expression.{decoded}
use Rattle.meaning.specs.WellFormed.{every}
use Rattle.book.specs.Sides.{reads_of, small}
use Rattle.book.proofs.sets.reads.Given as goal

abbrev pub invariant-loop-instruction : goal.invariant-loop-instruction
invariant-loop-instruction l =
    let left = decoded l.instruction-iterator.code.now in
    (reads_of l.side l.set left ≡ reads_of l.side l.initial.set (decoded l.code)) × (every small left ≡ true)
