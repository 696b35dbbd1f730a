-- What a plan says of a book. Assumes nothing.
use Rattle.std.specs.Prelude.{◌≡◌, ℕ, ◌<◌, true, length, slice_index, slice_index_or}
use Rattle.meaning.specs.Book.{Book, Rule}
use Rattle.meaning.specs.Expression.{reads}
use Rattle.meaning.specs.Flow.{slots_of, received}
use Rattle.meaning.specs.Levels.{Order, Lawful, Meets, Meeting}
use Rattle.meaning.specs.Sets.{has}
use Rattle.runs.specs.Clauses.{clause_at}
use Rattle.runs.specs.Update.{rule_at, level_of}
use Rattle.book.specs.declared.part.Part.{Part}
use Rattle.book.specs.declared.part.Part.TheVariants.{Default, Task}
use Rattle.discovery.specs.declared.plan.Route.{Route}
use Rattle.discovery.specs.declared.plan.Plan.{Plan}

-- the members of a set have levels of a lawful order with meets
pub record Comparable (o : Order) (M : Meets) (level : ℕ → ℕ) (set : ℕ) : Type 0 where
  pub lawful : Lawful o
  pub meeting : Meeting o M
  pub inside : (t : ℕ) → has set t ≡ true → level t < o.count

-- m is the greatest level at or below each member of a set
pub record Greatest (o : Order) (level : ℕ → ℕ) (set m : ℕ) : Type 0 where
  pub lower : (t : ℕ) → has set t ≡ true → o.below m (level t) ≡ true
  pub above : (c : ℕ) → ((t : ℕ) → has set t ≡ true → o.below c (level t) ≡ true) → o.below c m ≡ true

-- the route of a rule
abbrev pub RouteOf : Meets → Book → Rule → Route → Type 0
RouteOf M b r x =
    (x.default_lane ≡ level_of M b (slots_of r 0)) × (x.task_lane ≡ level_of M b (slots_of r 1)) × (x.received ≡ received r)

-- the route of the rule i
abbrev pub Routed : Meets → Book → ℕ → Route → Type 0
Routed M b i x = RouteOf M b (rule_at b i) x

-- the lanes of a route are lanes of the store
abbrev pub Laned : Route → Type 0
Laned x = (x.default_lane < 16) × (x.task_lane < 16)

-- what forming asks of the route of the rule i, whatever the meets
abbrev pub Known : Book → ℕ → Route → Type 0
Known b i x = Laned x × (x.received ≡ received (rule_at b i))

abbrev pub no_route : Route
no_route = record { default_lane = 0; task_lane = 0; received = 0 }

-- the lane of a part
abbrev pub lane : Route → Part → ℕ
lane x Default = x.default_lane
lane x Task = x.task_lane

-- what calls ask of a plan, whatever the meets: routes that are known, and what each clause reads
abbrev pub Ready : Book → Plan → Type 0
Ready b x =
    ((i : ℕ) → i < length b.rules → Known b i (slice_index_or x.routes i no_route)) × ((j : ℕ) → j < length b.clauses → slice_index x.reads j ≡ reads 0 (clause_at b j).test)

-- a plan has the route of each rule
abbrev pub Planned : Meets → Book → Plan → Type 0
Planned M b x = (i : ℕ) → i < length b.rules → Routed M b i (slice_index_or x.routes i no_route)
