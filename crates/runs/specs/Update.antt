-- Updates: a part of a rule, evaluated for a device, that waits in the lane of its level. Assumes nothing.
use Rattle.std.specs.Prelude.{ℕ, List, [], ◌∷◌, map, ℤ, slice_index_or}
use Rattle.meaning.specs.Book.{Book, Rule, Slot}
use Rattle.meaning.specs.Flow.{level, slots_of, set_by, no_rule}
use Rattle.meaning.specs.Levels.{Meets}
use Rattle.runs.specs.Table.{Table, value_at}
use Rattle.runs.specs.declared.write.Write.{Write}

-- for a device, by a rule's default part (0) or task part (1): a value for each target
pub record Update : Type 0 where
  pub device : ℕ
  pub rule : ℕ
  pub part : ℕ
  pub values : List ℤ

abbrev pub no_update : Update
no_update = record { device = 0; rule = 0; part = 0; values = [] }

abbrev pub rule_at : Book → ℕ → Rule
rule_at b i = slice_index_or b.rules i no_rule

abbrev pub slots_at : Book → ℕ → ℕ → List Slot
slots_at b i p = slots_of (rule_at b i) p

-- slots with the values that were computed for them
unfoldable pub assigned : List Slot → List ℤ → List Write
assigned [] vs = []
assigned (s ∷ ss) [] = []
assigned (s ∷ ss) (v ∷ vs) = record { target = s.target; value = v } ∷ assigned ss vs

-- the cells that an update sets, and as a set
abbrev pub writes : Book → Update → List Write
writes b u = assigned (slots_at b u.rule u.part) u.values

abbrev pub targets : Book → Update → ℕ
targets b u = set_by 0 (slots_at b u.rule u.part)

-- the meet of m and the levels of some targets
unfoldable pub met : Meets → Book → ℕ → List Slot → ℕ
met M b m [] = m
met M b m (s ∷ ss) = met M b (M.meet m (level b s.target)) ss

-- the meet of the levels of some targets
abbrev pub level_of : Meets → Book → List Slot → ℕ
level_of M b [] = 0
level_of M b (s ∷ ss) = met M b (level b s.target) ss

-- the lane of a part of a rule
abbrev pub lane_of : Meets → Book → ℕ → ℕ → ℕ
lane_of M b i p = level_of M b (slots_at b i p)

-- the values of some slots on the device d, for the receiver e
abbrev pub evaluated : Table → ℕ → ℕ → List Slot → List ℤ
evaluated T d e ss = map (λ s. value_at T d e s.value) ss
