-- What a level may see of a run, counted or written out. Assumes nothing.
use Rattle.std.specs.Prelude.{ℕ, List, [], ◌∷◌, ◌++◌, map, length, ℤ, Some, None, codes, decimal, sum, filter, Option}
use Rattle.std.specs.List.{range_with_len, flat_map}
use Rattle.std.specs.Fmt.{signed_decimal}
use Rattle.meaning.specs.Book.{Book, devices, resources}
use Rattle.meaning.specs.Flow.{level}
use Rattle.meaning.specs.Levels.{Order}
use Rattle.runs.specs.State.{State}

-- the lanes at or below k, ascending
abbrev pub lanes_below : Order → ℕ → List ℕ
lanes_below o k = filter (λ m. o.below m k) (range_with_len 0 o.count)

-- how many updates wait in them
unfoldable pub waiting_below : Order → ℕ → State → ℕ
waiting_below o k s = sum (map (λ m. length (s.lanes m).waiting) (lanes_below o k))

-- the resources at or below k, ascending
abbrev pub resources_below : Order → Book → ℕ → List ℕ
resources_below o b k = filter (λ r. o.below (level b r) k) (range_with_len 0 (resources b))

-- words with a space between them, ended by byte 10
abbrev pub line : List ℕ → List (List ℕ) → List ℕ
line word [] = word ++ (10 ∷ [])
line word (next ∷ rest) = word ++ (32 ∷ line next rest)

abbrev pub cell_line : ℕ → ℕ → Option ℤ → List ℕ
cell_line d r None = []
cell_line d r (Some v) = line (codes "c") (decimal d ∷ decimal r ∷ signed_decimal v ∷ [])

abbrev pub device_lines : Order → Book → ℕ → State → ℕ → List ℕ
device_lines o b k s d = flat_map (λ r. cell_line d r (s.table d r)) (resources_below o b k)

abbrev pub lane_line : State → ℕ → List ℕ
lane_line s m = line (codes "l") (decimal m ∷ decimal (length (s.lanes m).waiting) ∷ decimal (s.lanes m).lost ∷ [])

-- the level, each cell at or below it by device and resource, each lane at or below it with what waits and what was lost
unfoldable pub reported : Order → Book → ℕ → State → List ℕ
reported o b k s =
    line (codes "level") (decimal k ∷ []) ++ (flat_map (device_lines o b k s) (range_with_len 0 (devices b)) ++ flat_map (lane_line s) (lanes_below o k))
