-- The table's rule is one test at each of its lines, which antt computes.
use Rattle.std.proofs.Common.{get_or, sym, subst}
use Rattle.book.proofs.Printed.{table, Rule, rule}
use Rattle.book.proofs.opcode.row_of.Goals as goal

pub returns : goal.returns
returns c =
    let told : Rule c.args.instruction (get_or table c.opcode_of.result (record { opcode = 0; length = 0; pops = 0 })) = subst (λ k. Rule c.args.instruction (get_or table k (record { opcode = 0; length = 0; pops = 0 }))) (sym c.opcode_of.ensures) (rule c.args.instruction) in
    record { length = told.0; pops = told.1 }
