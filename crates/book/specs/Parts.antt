-- What a part is. Assumes nothing.
use Rattle.std.specs.Prelude.{◌≡◌, ◌≢◌, ℕ, Result, MatchResult}
use Rattle.book.specs.declared.part.Part.{Part}
use Rattle.book.specs.declared.part.Part.TheVariants.{Default, Task}
use Rattle.book.specs.declared.part.UnknownPart.{UnknownPart}
use Rattle.book.specs.declared.rule.Action.{Action}
use Rattle.book.specs.declared.rule.Rule.{Rule}

-- a part's number
abbrev pub number : Part → ℕ
number Default = 0
number Task = 1

-- the action of a part, as the code has it
abbrev pub action_of : Rule → Part → Action
action_of r Default = r.defaults
action_of r Task = r.tasks

-- the result is the part with this number, or an error with a number that no part has
abbrev pub Decodes : ℕ → Result Part UnknownPart → Type 0
Decodes n r = MatchResult r (λ part. number part ≡ n) (λ e. (e.0 ≡ n) × ((part : Part) → number part ≢ n))
