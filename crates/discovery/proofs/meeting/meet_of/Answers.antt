-- What the chain gives is the meet of the levels of the members, one after the other.
use Rattle.std.proofs.Common.{rules, ◌≡◌, map, ap, ◌∙◌}
use Rattle.std.proofs.iter.Rest.{run_of_first}
use Rattle.std.specs.List.{reduce}
use Rattle.meaning.specs.Flow.{level}
use Rattle.levels.specs.Scales.{scaled, scaled_meets}
use Rattle.book.specs.Means.{means}
use Rattle.discovery.specs.Members.{members_of}
use Rattle.discovery.proofs.Meets.{reduced, members_met}
use Rattle.discovery.proofs.meeting.meet_of.Goals as goal

pub returns : goal.returns
returns c =
    let run = c.reduce.ensures.runs in
    let source = c.map.ensures.runs run.0 run.0.seen run.1 in
    let walked : source.0.items ≡ members_of c.args.set = (run_of_first (λ walk. members_of walk.left) source.0).1.4 (source.2.0 ∙ run.2) ∙ ap (λ walk. members_of walk.left) source.1 ∙ ap members_of c.of.ensures in
    let mapped : run.0.items ≡ map (level (means c.args.book.now)) source.0.items = source.2.3 _ (λ t r q k. search rules) in
    let met : c.reduce.result ≡ reduce (scaled_meets c.args.scale.now).meet run.0.items = reduced run.0 _ _ _ (λ a b r q k. search rules) _ run.3 in
    members_met (scaled c.args.scale.now) _ _ c.args.set c.requires.comparable c.ranges.set.fits c.requires.some c.unwrap_or.result (cc)
