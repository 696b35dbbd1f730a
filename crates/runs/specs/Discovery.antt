-- Discovery: which updates a change on a device forms, and where they go. Assumes nothing.
use Rattle.std.specs.Prelude.{ℕ, Bool, cond, not, ◌&&◌, ◌||◌, List, [], ◌∷◌, ◌++◌, map, length, filter, ◌==◌, nat_eq, nat_le}
use Rattle.std.specs.List.{range_with_len, flat_map}
use Rattle.meaning.specs.Book.{Book, Rule, devices}
use Rattle.meaning.specs.Expression.{truth}
use Rattle.meaning.specs.Flow.{lands, share}
use Rattle.meaning.specs.Levels.{Meets}
use Rattle.meaning.specs.Sets.{has}
use Rattle.runs.specs.Lane.{Lane, let_in, accept}
use Rattle.runs.specs.Table.{Table, value_at}
use Rattle.runs.specs.Update.{Update, rule_at, slots_at, lane_of, evaluated}

-- a part of a rule, and a device that it may go to
pub record Place : Type 0 where
  pub rule : ℕ
  pub part : ℕ
  pub device : ℕ

abbrev pub place : ℕ → ℕ → ℕ → Place
place i p e = record { rule = i; part = p; device = e }

-- the default part, where it has a target, goes to the changed device d
abbrev pub default_places : Rule → ℕ → ℕ → List Place
default_places r i d = cond (nat_le 1 (length r.defaults)) (place i 0 d ∷ []) []

-- the other devices where the task can land, ascending
abbrev pub receivers : Book → Rule → ℕ → List ℕ
receivers b r d = filter (λ e. not (e == d) && lands b r 1 e) (range_with_len 0 (devices b))

-- a local task goes to d, a remote one to each receiver
abbrev pub task_places : Book → Rule → ℕ → ℕ → List Place
task_places b r i d =
    cond (nat_le 1 (length r.tasks)) (cond r.remote (map (place i 1) (receivers b r d)) (place i 1 d ∷ [])) []

-- the places of the rule i, if d carries it
abbrev pub places_of : Book → ℕ → ℕ → List Place
places_of b d i =
    cond (has (rule_at b i).carriers d) (default_places (rule_at b i) i d ++ task_places b (rule_at b i) i d) []

-- all places that a change on d can reach, in book order
unfoldable pub places : Book → ℕ → List Place
places b d = flat_map (places_of b d) (range_with_len 0 (length b.rules))

-- an event of the rule changed, and a task's condition holds there
abbrev pub goes : Book → Table → ℕ → ℕ → Place → Bool
goes b T d changed x =
    share (rule_at b x.rule).events changed && (x.part == 0 || truth (value_at T d x.device (rule_at b x.rule).condition))

-- everything is evaluated at once
abbrev pub form : Book → Table → ℕ → Place → Update
form b T d x =
    record { device = x.device; rule = x.rule; part = x.part; values = evaluated T d x.device (slots_at b x.rule x.part) }

-- the updates that a change of the resources `changed` on the device d forms, in order
unfoldable pub formed : Book → Table → ℕ → ℕ → List Update
formed b T d changed = map (form b T d) (filter (goes b T d changed) (places b d))

-- those for the lane m
abbrev pub bound_for : Meets → Book → ℕ → List Update → List Update
bound_for M b m us = filter (λ u. nat_eq (lane_of M b u.rule u.part) m) us

-- each goes to the end of its lane, or is lost there
unfoldable pub settled : Meets → Book → (ℕ → Lane Update) → List Update → ℕ → Lane Update
settled M b lanes us m = accept (lanes m) (bound_for M b m us)

-- those that found room
unfoldable pub arrived : Meets → Book → (ℕ → Lane Update) → List Update → ℕ → List Update
arrived M b lanes us m = let_in (lanes m) (bound_for M b m us)
