-- Each turn tests one clause, by what the plan says that it reads.
use Rattle.std.proofs.Common.{◌≡◌, ℕ, Bool, not, ◌&&◌, eqb, length, take, sym, ap, ◌∙◌, arith}
use Rattle.book.specs.declared.book.Book.{Book}
use Rattle.book.specs.declared.rule.Clause.{Clause}
use Rattle.book.specs.Means.{code_of, clause_means, means}
use Rattle.evaluation.specs.Posted.{posted}
use Rattle.meaning.specs.Expression.{reads}
use Rattle.meaning.specs.Flow.{share}
use Rattle.runs.specs.Clauses.{holds, concerns}
use Rattle.runs.specs.Table.{Table}
use Rattle.book.specs.Rights.{Counted}
use Rattle.book.proofs.Numbering.{same_length, clause_at}
use Rattle.discovery.proofs.Firsts.{fails, found, passed_over, none_left}
use Rattle.discovery.proofs.planned.PlannedBook.failing.Goals as goal

-- the test of a clause is that of the clause's number
tested : (b : Book) (T : Table) (d set k m : ℕ) (x : Clause) (r : Bool) → Counted b k x → m ≡ reads 0 (Rattle.runs.specs.Clauses.clause_at (means b) k).test → r ≡ ((eqb x.device d && share m set) && not (holds T (clause_means (code_of b) x))) → r ≡ fails (means b) T (concerns d set) k
tested b T d set k m x r at is e =
    let y = clause_means (code_of b) x in
    let known = is ∙ ap (λ z. reads 0 z.test) at.is in
    e ∙ ap (λ n. (eqb y.device d && share n set) && not (holds T y)) known ∙ ap (λ z. (eqb z.device d && share (reads 0 z.test) set) && not (holds T z)) (sym at.is)

pub invariant_of-clause : goal.invariant_of-clause
invariant_of-clause g c =
    let of = c.args.self.now in
    let at = clause_at of.book.now of.formed c.loop-number.number _ c.used_clauses-clause-items.ensures _ c.loop-number-test.true in
    record { right = at.0; near = at.2 }

pub returns-then-is_broken : goal.returns-then-is_broken
returns-then-is_broken g c =
    let b = c.args.self.now.book.now in
    let T = posted c.args.preview.now.changes.now (g.H.Host.table c.args.preview.now.host.now) in
    let k = c.loop-number.number in
    let at = (clause_at b c.args.self.now.formed k _ c.used_clauses-clause-items.ensures _ c.loop-number-test.true).1 in
    let inside = at.inside in
    let it = tested b T c.args.device c.args.set k _ _ c.is_broken.result at (c.args.self.now.ready.1 k inside) c.is_broken.ensures in
    found (fails (means b) T (concerns c.args.device c.args.set)) (length (means b).clauses) k _ inside (sym it ∙ c.if-is_broken.true) c.loop-number.invariant

pub loop-number-preserved : goal.loop-number-preserved
loop-number-preserved g c =
    let b = c.args.self.now.book.now in
    let T = posted c.args.preview.now.changes.now (g.H.Host.table c.args.preview.now.host.now) in
    let k = c.loop-number.number in
    let at = (clause_at b c.args.self.now.formed k _ c.used_clauses-clause-items.ensures _ c.loop-number-test.true).1 in
    let inside = at.inside in
    let it = tested b T c.args.device c.args.set k _ _ c.is_broken.result at (c.args.self.now.ready.1 k inside) c.is_broken.ensures in
    passed_over (fails (means b) T (concerns c.args.device c.args.set)) (length (means b).clauses) k _ inside (sym it ∙ c.if-is_broken.false) c.loop-number.invariant

pub returns : goal.returns
returns g c =
    let b = c.args.self.now.book.now in
    let T = posted c.args.preview.now.changes.now (g.H.Host.table c.args.preview.now.host.now) in
    none_left (fails (means b) T (concerns c.args.device c.args.set)) (length (means b).clauses) c.loop-number.number _ (omega (arith, same_length (clause_means (code_of b)) (take b.clause_count b.clauses) _ c.used_clauses-clause-items.ensures, c.loop-number-test.false)) c.loop-number.invariant
