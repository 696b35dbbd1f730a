-- The flows of a row. Assumes nothing.
use Rattle.std.specs.Prelude.{ℕ, Bool, ◌&&◌}
use Rattle.meaning.specs.Book.{Book}
use Rattle.meaning.specs.Flow.{Flow, barred}
use Rattle.meaning.specs.Levels.{Order}
use Rattle.meaning.specs.Sets.{has}

-- a flow from a set of sources that the order bars
abbrev pub leaks : Order → Book → ℕ → Flow → Bool
leaks o b m f = has m f.source && barred o b f.target f.source

-- a flow to a set of targets, from the sources for its target, that the order bars
abbrev pub in_row : Order → Book → ℕ → (ℕ → ℕ) → Flow → Bool
in_row o b targets sources f = has targets f.target && leaks o b (sources f.target) f
