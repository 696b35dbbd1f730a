-- What the first number of an argument's place names, and its words. Assumes nothing.
use Rattle.std.specs.Prelude.{ℕ, List, ◌==◌, codes, if◌then◌else◌}
use Rattle.fault.specs.declared.fault.Argument.{Argument}
use Rattle.fault.specs.declared.fault.Argument.TheVariants.{Device, Resource, Level, Count}

-- what a number names; one that is not 1, 2 or 3 is taken for that of a count
abbrev pub argument_of : ℕ → Argument
argument_of n = if n == 1 then Device else (if n == 2 then Resource else (if n == 3 then Level else Count))

-- an argument in words
abbrev pub shown_argument : Argument → List ℕ
shown_argument Device = codes "device"
shown_argument Resource = codes "resource"
shown_argument Level = codes "lane or level"
shown_argument Count = codes "count or run number"
