-- The updates that a change forms, rule by rule and part by part. Assumes nothing.
use Rattle.std.specs.Prelude.{ℕ, cond, not, ◌&&◌, List, [], ◌∷◌, ◌++◌, length, ◌==◌, nat_le}
use Rattle.std.specs.List.{range_with_len, flat_map}
use Rattle.meaning.specs.Book.{Book, devices}
use Rattle.meaning.specs.Expression.{truth}
use Rattle.meaning.specs.Flow.{lands, share}
use Rattle.meaning.specs.Sets.{has}
use Rattle.runs.specs.Discovery.{place, form}
use Rattle.runs.specs.Table.{Table, value_at}
use Rattle.runs.specs.Update.{Update, rule_at}

-- by the default part of the rule i, on the device d
abbrev pub by_default : Book → Table → ℕ → ℕ → List Update
by_default b T i d = cond (nat_le 1 (length (rule_at b i).defaults)) (form b T d (place i 0 d) ∷ []) []

-- by its task, for the device e, where the condition holds
abbrev pub by_task_at : Book → Table → ℕ → ℕ → ℕ → List Update
by_task_at b T i d e =
    cond (truth (value_at T d e (rule_at b i).condition)) (form b T d (place i 1 e) ∷ []) []

-- by its task, for the device e if it is another one where the task can land
abbrev pub by_task_for : Book → Table → ℕ → ℕ → ℕ → List Update
by_task_for b T i d e = cond (not (e == d) && lands b (rule_at b i) 1 e) (by_task_at b T i d e) []

abbrev pub by_task : Book → Table → ℕ → ℕ → List Update
by_task b T i d =
    cond (nat_le 1 (length (rule_at b i).tasks)) (cond (rule_at b i).remote (flat_map (by_task_for b T i d) (range_with_len 0 (devices b))) (by_task_at b T i d d)) []

-- by the rule i, if d carries it and an event of it changed
unfoldable pub by_rule : Book → Table → ℕ → ℕ → ℕ → List Update
by_rule b T d changed i =
    cond (has (rule_at b i).carriers d && share (rule_at b i).events changed) (by_default b T i d ++ by_task b T i d) []
