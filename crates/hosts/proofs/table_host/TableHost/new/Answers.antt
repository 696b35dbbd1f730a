-- Each call gives the start at its place, so the rows make the table of the starts.
use Rattle.std.proofs.Common.{ℕ, ◌/◌, ◌%◌, ℤ, pos, ap, ◌∙◌, arith, rules}
use Rattle.book.specs.Means.{means}
use Rattle.runs.specs.Table.{cell}
use Rattle.hosts.specs.Tables.{laid_out, at_start}
use Rattle.hosts.specs.Words.{has_cell, word}
use Rattle.hosts.proofs.Placing.{made_each, rows_placed}
use Rattle.hosts.proofs.Setting.{same_starts}
use Rattle.hosts.proofs.table_host.TableHost.new.Goals as goal

pub returns : goal.returns
returns g c =
    let cells = c.of-cells.result in
    let b = means c.book-book.result.now in
    let starts = c.used_starts-starts.result.now in
    let start : ℕ → ℤ = λ k. cell (laid_out (has_cell cells.masks) (word cells.masks) starts) (k / 32) (k % 32) in
    let each = made_each c.from_fn-values.ensures.items start (λ i y q called. (search rules, search rules)) (pos 0) in
    rows_placed cells.masks cells.fits (omega arith) starts c.from_fn-values.result each
    ∙ ap (laid_out (has_cell cells.masks) (word cells.masks)) c.used_starts-starts.ensures
    ∙ same_starts cells.masks b.cells c.of-cells.ensures b.starts
    ∙ ap (λ book. at_start (means book)) c.book-book.ensures
