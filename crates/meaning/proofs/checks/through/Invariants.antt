use Rattle.std.proofs.Common.{◌≡◌, ℕ, ◌-◌, ◌<◌, Result}
use Rattle.fault.specs.declared.fault.Fault.{Fault}
use Rattle.meaning.specs.Checks.{through}
use Rattle.meaning.proofs.checks.through.Given as goal

-- what is left at i answers what the whole does
abbrev pub invariant-loop-i : goal.invariant-loop-i
invariant-loop-i g l =
    (f : ℕ → g.row.S.Denot → Result g.row.S.Denot Fault) → ((i : ℕ) (s : g.row.S.Denot) (r : Result g.row.S.Denot Fault) → i < l.count → goal.F-post g l.check i s r → r ≡ f i s) → through f (l.count - l.i) l.i l.state ≡ through f l.count 0 l.initial.state
