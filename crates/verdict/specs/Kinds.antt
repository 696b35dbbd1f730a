-- The numbers of the kinds of flows. Assumes nothing.
use Rattle.std.specs.Prelude.{◌≡◌, ◌≢◌, ℕ, Result, MatchResult}
use Rattle.verdict.specs.declared.flow_kind.FlowKind.{FlowKind}
use Rattle.verdict.specs.declared.flow_kind.FlowKind.TheVariants.{Event, Condition, Value, Watched, Clause}
use Rattle.verdict.specs.declared.flow_kind.UnknownFlowKind.{UnknownFlowKind}

abbrev pub number : FlowKind → ℕ
number Event = 1
number Condition = 2
number Value = 3
number Watched = 4
number Clause = 5

-- the result is the kind with this number, or an error with a number that no kind has
abbrev pub Decodes : ℕ → Result FlowKind UnknownFlowKind → Type 0
Decodes n r = MatchResult r (λ kind. number kind ≡ n) (λ e. (e.0 ≡ n) × ((kind : FlowKind) → number kind ≢ n))
