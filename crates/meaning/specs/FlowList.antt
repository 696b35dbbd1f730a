-- The list of forbidden flows: ascending by rule, part, kind, target and source. Assumes nothing.
use Rattle.std.specs.Prelude.{◌≡◌, ℕ, ◌+◌, ◌≤◌, Bool, true, ◌&&◌, ◌||◌, List, [], ◌∷◌, ◌++◌, map, length, filter, ◌==◌, nat_lt}
use Rattle.std.specs.List.{range_with_len, flat_map, ContainsAt as Has}
use Rattle.meaning.specs.Book.{Book, resources}
use Rattle.meaning.specs.Flow.{Flow, forbidden, Sound}
use Rattle.meaning.specs.Levels.{Order}

abbrev pub flow : ℕ → ℕ → ℕ → ℕ → ℕ → Flow
flow i p k t s = record { rule = i; part = p; kind = k; target = t; source = s }

-- the flows to t that could be, by source
abbrev pub to_target : Book → ℕ → ℕ → ℕ → ℕ → List Flow
to_target b i p k t = map (flow i p k t) (range_with_len 0 (resources b))

-- the flows of a kind that could be, by target
abbrev pub of_kind : Book → ℕ → ℕ → ℕ → List Flow
of_kind b i p k = flat_map (to_target b i p k) (range_with_len 0 (resources b))

abbrev pub of_part : Book → ℕ → ℕ → List Flow
of_part b i p = flat_map (of_kind b i p) (range_with_len 1 4)

abbrev pub of_rule : Book → ℕ → List Flow
of_rule b i = flat_map (of_part b i) (range_with_len 0 2)

abbrev pub of_clause : Book → ℕ → List Flow
of_clause b j = of_kind b (32 + j) 0 5

-- every flow that could be
abbrev pub candidates : Book → List Flow
candidates b = flat_map (of_rule b) (range_with_len 0 (length b.rules)) ++ flat_map (of_clause b) (range_with_len 0 (length b.clauses))

-- those that are forbidden
unfoldable pub flow_list : Order → Book → List Flow
flow_list o b = filter (forbidden o b) (candidates b)

-- a flow's five bytes
abbrev pub flow_bytes : Flow → List ℕ
flow_bytes f = f.rule ∷ f.part ∷ f.kind ∷ f.target ∷ f.source ∷ []

abbrev pub flows_bytes : List Flow → List ℕ
flows_bytes fs = flat_map flow_bytes fs

-- f comes before g, by rule, part, kind, target and then source
abbrev pub before : Flow → Flow → Bool
before f g =
    nat_lt f.rule g.rule || (f.rule == g.rule && (nat_lt f.part g.part || (f.part == g.part && (nat_lt f.kind g.kind || (f.kind == g.kind && (nat_lt f.target g.target || (f.target == g.target && nat_lt f.source g.source)))))))

-- each flow comes before the next
abbrev pub Ascending : List Flow → Type 0
Ascending [] = Unit {0}
Ascending (f ∷ []) = Unit {0}
Ascending (f ∷ g ∷ fs) = (before f g ≡ true) × Ascending (g ∷ fs)

-- a list holds exactly the forbidden flows, each once and in order
pub record Lists (o : Order) (b : Book) (fs : List Flow) : Type 0 where
  pub ascends : Ascending fs
  pub holds : (f : Flow) → forbidden o b f ≡ true → Has fs f
  pub only : (f : Flow) → Has fs f → forbidden o b f ≡ true

-- the list is that list, where a book has at most 32 rules
abbrev pub Listed : Type 0
Listed = (o : Order) (b : Book) → length b.rules ≤ 32 → Lists o b (flow_list o b)

-- and it is empty exactly where no flow is forbidden
abbrev pub Emptied : Type 0
Emptied = (o : Order) (b : Book) → length b.rules ≤ 32 → (length (flow_list o b) ≡ 0 → Sound o b) × (Sound o b → flow_list o b ≡ [])
