-- The devices are compared one after the other.
use Rattle.std.proofs.Common.{length, ap, ◌∙◌, rules}
use Rattle.meaning.specs.Checks.{through}
use Rattle.runs.specs.Step.{device_checked, cells_checked}
use Rattle.book.specs.Means.{means}
use Rattle.discovery.proofs.comparing.cells_match.Goals as goal

pub returns : goal.returns
unfolding cells_checked
returns g c =
    let check = device_checked (means c.args.book.now.book.now) (g.H.Host.table c.args.host.now) in
    c.through.ensures check (λ d s r h p. search rules) ∙ ap (λ cells. through check (length cells) 0 tt) c.used_cells.ensures
