-- Each set is what its call gave.
use Rattle.std.proofs.Common.{◌≡◌, rules}
use Rattle.meaning.specs.Flow.{read_for}
use Rattle.levels.proofs.Made.{each_made}
use Rattle.book.specs.Means.{code_of, action_means}
use Rattle.verdict.proofs.listing.values.Goals as goal

pub returns : goal.returns
returns c t inside =
    let action = c.args.action.now in
    each_made (λ i set. set ≡ read_for i 0 (action_means (code_of action.book.now) action.action.now)) (λ _ _ _ called. search rules) c.from_fn.ensures.items t 0 inside
