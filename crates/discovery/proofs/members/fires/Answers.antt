-- The members of a set are asked for one after the other.
use Rattle.std.proofs.Common.{rules, sym, ap, ◌∙◌}
use borrow.Author.Tests.{tests}
use Rattle.std.proofs.lemmas.Iterator.Consumers.{YieldsList-from_first}
use Rattle.std.proofs.lemmas.Iterator.Search.{any_from_yields_List}
use Rattle.meaning.specs.Sets.{has}
use Rattle.discovery.specs.Members.{members_of}
use Rattle.discovery.proofs.Walks.{share_listed}
use Rattle.discovery.proofs.members.fires.Goals as goal

pub returns : goal.returns
returns c =
    any_from_yields_List (has c.args.changed) _ _ _ c.any.ensures.ran (YieldsList-from_first (λ x. x) (λ walk. members_of walk.left) (members_of c.args.events) (ap members_of c.of.ensures)) (λ x b q k. search (rules, tests)) ∙ sym (share_listed c.args.events c.args.changed c.ranges.events.fits)
