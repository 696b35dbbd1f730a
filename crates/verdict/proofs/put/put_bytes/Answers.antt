-- The five writes are those of a flow's bytes, at places that are counted up.
use Rattle.std.proofs.Common.{◌≡◌, ◌+◌, arith}
use Rattle.verdict.specs.Puts.{placed}
use Rattle.verdict.proofs.put.put_bytes.Goals as goal

pub returns : goal.returns
unfolding placed
returns c =
    let second : c.args.at + 2 ≡ c.args.at + 1 + 1 = omega arith in
    let third : c.args.at + 3 ≡ c.args.at + 1 + 1 + 1 = omega arith in
    let fourth : c.args.at + 4 ≡ c.args.at + 1 + 1 + 1 + 1 = omega arith in
    record { bytes = cc; ends = omega arith }
