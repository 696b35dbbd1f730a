-- The levels are tested one after the other.
use Rattle.std.proofs.Common.{ap, ◌∙◌, length, rules}
use Rattle.meaning.specs.Checks.{through}
use Rattle.levels.specs.Scales.{scaled}
use Rattle.book.specs.Means.{means}
use Rattle.verdict.specs.Verdicts.{level_checked, levels_checked}
use Rattle.verdict.proofs.levels_known.levels_known.Goals as goal

pub returns : goal.returns
unfolding levels_checked
returns c =
    let check = level_checked (scaled c.args.scale.now) (means c.args.book.now.book.now) in
    c.through.ensures check (λ i s r h p. search rules) ∙ ap (λ levels. through check (length levels) 0 tt) c.used_levels.ensures
