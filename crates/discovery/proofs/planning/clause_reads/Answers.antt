-- Each turn gathers what one clause reads.
use Rattle.book.proofs.Numbering as numbering
use Rattle.discovery.proofs.planning.clause_reads.Goals as goal

pub invariant_of-clause : goal.invariant_of-clause
invariant_of-clause c =
    let book = c.args.book.now in
    let at = numbering.clause_at book.book.now book.formed c.loop-number.number _ c.used_clauses-clause-items.ensures _ c.loop-number-test.true in
    record { right = at.0; near = at.2 }
