-- The first part that refuses gives the fault, and where none does the draft is filled with what the file spells.
use Rattle.std.proofs.Common.{Ok, sym, subst}
use Rattle.meaning.specs.WellFormed.{WellFormed}
use Rattle.book.specs.Means.{means}
use Rattle.book.specs.Reads.{Read}
use Rattle.book.proofs.Outcome.{answered, fields_refuse, expressions_refuse, last_check, formed, read_as, refused}
use Rattle.book.proofs.reader.read.Goals as goal

pub returns-in_err-layout-clause-read : goal.returns-in_err-layout-clause-read
returns-in_err-layout-clause-read c = refused _ c.from_residual.ensures.1 (answered _ _ c.in_err-layout.ensures)

pub returns-in_err-fields-clause-read : goal.returns-in_err-fields-clause-read
returns-in_err-fields-clause-read c =
    refused _ c.from_residual-in_err-fields.ensures.1 (fields_refuse c.in_ok-layout.ensures _ (sym c.in_err-fields.ensures))

pub returns-in_err-expressions-clause-read : goal.returns-in_err-expressions-clause-read
returns-in_err-expressions-clause-read c =
    refused _ c.from_residual-in_err-expressions.ensures.1 (expressions_refuse c.in_ok-layout.ensures (sym c.in_ok-fields.ensures) _ (sym c.in_err-expressions.ensures))

pub returns-in_err-cells-clause-read : goal.returns-in_err-cells-clause-read
returns-in_err-cells-clause-read c =
    refused _ c.from_residual-in_err-cells.ensures.1 (answered _ _ (last_check c.in_ok-layout.ensures (sym c.in_ok-fields.ensures) _ (sym c.in_ok-expressions.ensures) (sym c.in_err-cells.ensures)))

pub invariant_of-draft : goal.invariant_of-draft
invariant_of-draft c =
    let right = (formed c.in_ok-layout.ensures (sym c.in_ok-fields.ensures) (λ i. (c.type_inv.bytes i).fits) (sym c.in_ok-expressions.ensures) (sym c.in_ok-cells.ensures)).0 in
    record { right = subst WellFormed (sym c.fill.ensures) right }

pub returns-clause-read : goal.returns-clause-read
returns-clause-read c =
    let bs = c.args.bytes.now in
    let before = means c.args.draft.now.book in
    let told = read_as c.in_ok-layout.ensures (sym c.in_ok-fields.ensures) (λ i. (c.type_inv.bytes i).fits) (sym c.in_ok-expressions.ensures) (sym c.in_ok-cells.ensures) before in
    subst (λ after. Read bs before after (Ok tt)) (sym c.fill.ensures) told
