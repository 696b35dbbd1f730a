-- Each table holds what its section spells, and the code all that follows.
use Rattle.std.proofs.Common.{◌≡◌, ◌+◌, ◌*◌, map, length, take, drop, ap, ◌∙◌, arith}
use Rattle.std.specs.List.{range_with_len}
use Rattle.std.proofs.lemmas.List.{length-drop}
use Rattle.meaning.specs.Bytes.{byte_at, four_at}
use Rattle.meaning.specs.Layout.{room, code_from, rules_from, clauses_from}
use Rattle.meaning.specs.Parsed.{start_at, spelt}
use Rattle.book.specs.Means.{rule_means, clause_means}
use Rattle.book.specs.Plan.{plan}
use Rattle.book.specs.Spelling.{rule_spelt, clause_spelt}
use Rattle.book.specs.declared.file.Right.{Right}
use Rattle.book.proofs.Filled.{same_at, rules_mean, clauses_mean}
use Rattle.book.proofs.Outcome.{Fitting, fitting}
use Rattle.book.proofs.file.Right.fill.Goals as goal
use Rattle.book.proofs.file.Right.fill.Goals.{After-rest}

fits : (right : Right) → Fitting right.parsed.file.bytes.now (plan right.parsed.file.layout)
fits right =
    let file = right.parsed.file in
    fitting file.framed right.parsed.fields file.fits right.parsed.expressions right.cells

-- the code that is copied is all that the layout has room for
size : (c : After-rest) → length c.rest.result.now ≡ room (plan c.args.self.now.parsed.file.layout)
size c =
    let whole = (fits c.args.self.now).whole in
    omega (arith, ap length c.rest.ensures, length-drop c.code_from.result c.args.self.now.parsed.file.bytes.now)

pub fill_code-requires : goal.fill_code-requires
fill_code-requires c = omega (arith, size (goal.at.fill_code-requires c).After-rest, (fits c.args.self.now).short)

pub returns : goal.returns
unfolding spelt
returns c =
    let file = c.args.self.now.parsed.file in
    let bs = file.bytes.now in
    let l = file.layout in
    let from = code_from (plan l) in
    let all : c.from-book.result ≡ length c.rest.result.now = omega (arith, size (goal.at.returns c).After-rest) in
    let code : take c.from-book.result c.fill_code.new.table ≡ drop from bs = ap (λ n. take n c.fill_code.new.table) all ∙ c.fill_code.ensures ∙ c.rest.ensures ∙ ap (λ n. drop n bs) c.code_from.ensures in
    let levels = c.fill_table.ensures ∙ same_at _ (λ k. byte_at bs (32 + k)) 0 l.resources (λ k h. ap (byte_at bs) (omega arith)) in
    let cells = c.fill_table-2.ensures ∙ ap (λ p. map (λ k. four_at bs (p + 4 * k)) (range_with_len 0 l.devices)) c.cells_from.ensures in
    let starts = c.fill_table-3.ensures ∙ ap (λ p. map (λ k. start_at bs (p + 4 * k)) (range_with_len 0 l.cells)) c.starts_from.ensures in
    let rules = c.fill_table-4.ensures ∙ ap (λ p. map (λ k. rule_spelt bs (p + 53 * k)) (range_with_len 0 l.rules)) c.rules_from.ensures in
    let clauses = c.fill_table-5.ensures ∙ ap (λ p. map (λ k. clause_spelt bs (p + 5 * k)) (range_with_len 0 l.clauses)) c.clauses_from.ensures in
    let rules_meant = (λ i. map (rule_means (code i)) (rules i)) ∙ rules_mean bs from (rules_from (plan l)) l.rules (fits c.args.self.now).four in
    let clauses_meant = (λ i. map (clause_means (code i)) (clauses i)) ∙ clauses_mean bs from (clauses_from (plan l)) l.clauses in
    λ i. record { levels = levels i; cells = cells i; starts = starts i; rules = rules_meant i; clauses = clauses_meant i }
