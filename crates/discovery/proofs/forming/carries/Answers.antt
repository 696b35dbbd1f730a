-- No device past the width of the mask carries a rule.
use Rattle.std.proofs.Common.{◌%◌, ◌^◌, ◌<◌, eqb, sym, ap, ◌∙◌, arith, pow_mono}
use native.Mathlib.Nat.{div-eq_of_lt}
use Rattle.std.proofs.lemmas.Bool.{le-ltb}
use Rattle.discovery.proofs.forming.carries.Goals as goal

pub returns-else-device-lt32 : goal.returns-else-device-lt32
returns-else-device-lt32 c =
    let d = c.args.device in
    let m = c.args.rule.now.carriers in
    let far : m < 2 ^ d = omega (arith, pow_mono {i = 32} {j = d} c.if-device-lt32.false, c.from-carriers.type_inv, c.from-carriers.ensures) in
    le-ltb d 32 c.if-device-lt32.false ∙ sym (ap (λ n. eqb (n % 2) 1) (div-eq_of_lt far))
