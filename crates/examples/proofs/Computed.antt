-- Each example holds by computing both sides. Assumes nothing.
use Rattle.std.proofs.Common.{refl}
use Rattle.examples.specs.Examples.{Examples}
use Rattle.examples.proofs.Computes.{flows_compute}

pub computed : Examples
unfolding flows_compute
computed = (refl, (refl, (refl, (refl, (refl, (refl, (refl, (refl, (refl, (refl, tt))))))))))
