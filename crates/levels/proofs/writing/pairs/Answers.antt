-- Each element is what its call gave.
use Rattle.std.proofs.Common.{◌≡◌, rules}
use Rattle.levels.specs.Tables.{no_pair, said_at}
use Rattle.levels.proofs.Made.{each_made}
use Rattle.levels.proofs.writing.pairs.Goals as goal

pub returns : goal.returns
returns g c k inside =
    let order = c.args.order.now in
    each_made (λ i pair. pair ≡ said_at (g.O.Order.ranks order) (g.O.Order.meets order) i) (λ _ _ _ called. search rules) c.from_fn.ensures.items k no_pair inside
