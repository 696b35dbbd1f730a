-- The host keeps its masks and the name of its words, so the words that come back are those that it held last.
use Rattle.std.proofs.Common.{get_or, pos, ap, ◌∙◌, rules}
use Rattle.runs.specs.Table.{write}
use Rattle.book.specs.Means.{means}
use Rattle.hosts.specs.Frames.{past_cells}
use Rattle.hosts.specs.Tables.{in_words}
use Rattle.hosts.proofs.Lent.{come_back}
use Rattle.hosts.proofs.tests.lend.Goals as goal

pub returns : goal.returns
returns g c =
    let cells = (means c.args.accepted.now.draft.book).cells in
    let made = c.new-host.ensures in
    let first = c.new-host.result in
    let last = c.set_two.new.host in
    let kept = c.set_two.ensures.kept in
    let masks = ap (λ f. f.masks) kept in
    let lent = ap (λ f. get_or f.lent 0 0) kept ∙ made.lent in
    record {
      cells = come_back in_words (λ T. write (write T 0 2 (pos 7)) 1 1 (pos 9)) cells first.cells.masks last.cells.masks c.args.words.now first.words.now last.words.now _ made.cells made.words masks (search rules) c.set_two.ensures.written;
      past = come_back past_cells (λ ws. ws) cells first.cells.masks last.cells.masks c.args.words.now first.words.now last.words.now _ made.past made.words masks (search rules) (ap (λ f. f.beyond) kept);
    }
