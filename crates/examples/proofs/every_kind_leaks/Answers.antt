-- A small book for each kind, and two runs of it.
use Rattle.examples.proofs.every_kind_leaks.Goals as goal
use Rattle.examples.proofs.Leaks.{leaks}

pub returns : goal.returns
returns c = leaks
