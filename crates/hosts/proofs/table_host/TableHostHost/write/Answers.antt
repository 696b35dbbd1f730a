-- The value set is the one that was given.
use Rattle.std.proofs.Common.{arith, w32}
use Rattle.std.proofs.lemmas.Int.{to_z-of_z}
use Rattle.hosts.proofs.Setting.{written_rows}
use Rattle.hosts.proofs.table_host.TableHostHost.write.Goals as goal

pub returns-in-Some-clause-written : goal.returns-in-Some-clause-written
returns-in-Some-clause-written c =
    rw (to_z-of_z w32 c.args.value c.ranges.value) (written_rows _ _ _ _ _ _ c.in-Some.ensures.value (omega (arith, c.in-Some.ensures.inside)))
