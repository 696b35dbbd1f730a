-- The resources that the clause reads are small, as those of each that was checked.
use Rattle.std.proofs.Common.{◌+◌, sym, ap, ◌∙◌, subst, arith}
use Rattle.meaning.specs.Bytes.{part}
use Rattle.meaning.specs.Layout.{code_from}
use Rattle.book.specs.Plan.{plan}
use Rattle.book.specs.Sides.{Small}
use Rattle.book.specs.Spelling.{clause_spelt}
use Rattle.book.proofs.Outcome.{inside}
use Rattle.book.proofs.Smallness.{clauses_small}
use Rattle.book.proofs.file.Parsed.clause.Goals as goal

pub reads-needed-requires : goal.reads-needed-requires
reads-needed-requires c =
    let parsed = c.args.self.now in
    let file = parsed.file in
    let clause = c.spelt_at-clause.ensures ∙ ap (clause_spelt file.bytes.now) c.clause_from.ensures in
    let code = c.code.ensures.in_file ∙ (λ k. part file.bytes.now (code_from (plan file.layout) + (clause k).test.from) (clause k).test.size) in
    subst Small (sym code) (clauses_small file.bytes.now (plan file.layout) file.fits (inside file.framed) (omega arith) parsed.fields parsed.expressions c.args.i c.requires)
