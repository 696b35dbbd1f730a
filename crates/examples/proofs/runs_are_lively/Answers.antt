-- A ladder of two levels, a book with a rule for each, and more inputs than the lanes have room for.
use Rattle.examples.proofs.runs_are_lively.Goals as goal
use Rattle.examples.proofs.Lively.{lively}

pub returns : goal.returns
returns c = lively
