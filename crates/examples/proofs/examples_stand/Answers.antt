-- All by computing.
use Rattle.examples.proofs.examples_stand.Goals as goal
use Rattle.examples.proofs.Computed.{computed}

pub returns : goal.returns
returns c = computed
