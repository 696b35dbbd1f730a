-- The members of a set of resources, one after the other. Assumes nothing.
use Rattle.std.specs.Prelude.{ℕ, List, filter}
use Rattle.std.specs.List.{range_with_len}
use Rattle.meaning.specs.Sets.{has}

-- from the lowest on
unfoldable pub members_of : ℕ → List ℕ
members_of set = filter (has set) (range_with_len 0 32)
