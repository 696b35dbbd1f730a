-- Each promise is proved in a file of its own.
use Rattle.runs.proofs.Good.{ran_good, started_good}
use Rattle.runs.proofs.InOrder.{in_order}
use Rattle.runs.proofs.Isolating.{isolated}
use Rattle.runs.proofs.promises_stand.Goals as goal

pub returns : goal.returns
returns c o M b accepted =
    record {
      isolation = isolated o M b accepted;
      service = in_order o M b accepted;
      invariants = λ s cs start. (ran_good o M b accepted cs s (started_good o M b s start)).holds;
    }
