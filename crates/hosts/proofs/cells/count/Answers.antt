-- The chain gives the sum of the ones.
use Rattle.std.proofs.Common.{◌≡◌, ◌∙◌, arith, rules}
use lib.Count.{ones}
use Rattle.std.specs.List.{sum_by}
use Rattle.std.proofs.iter.runs.Made.{chains}
use Rattle.hosts.proofs.Numbering.{sum_ones, count_bounded}
use Rattle.hosts.proofs.cells.count.Goals as goal

pub returns : goal.returns
returns c =
    let masks = c.args.masks.now in
    let sum : c.sum.result ≡ sum_by ones masks = search (rules, chains) in
    record { value = sum ∙ sum_ones masks; bound = omega (arith, sum_ones masks, count_bounded masks (search rules)) }
