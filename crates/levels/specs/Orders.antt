-- The two orders: numbers on a ladder, and sets by inclusion. Assumes nothing.
use Rattle.std.specs.Prelude.{ℕ, ◌^◌, min, Bool, cond, ◌&&◌, bit_and, nat_le, nat_lt}
use Rattle.fault.specs.declared.fault.CallCause.TheVariants.{Argument}
use Rattle.fault.specs.declared.fault.Layer.TheVariants.{Call}
use Rattle.fault.specs.declared.fault.Fault.{Fault}
use Rattle.meaning.specs.Levels.{Order, Meets}
use Rattle.meaning.specs.Sets.{within}

-- a and b are levels
abbrev pub both_inside : ℕ → ℕ → ℕ → Bool
both_inside n a b = nat_lt a n && nat_lt b n

-- n levels compared as numbers
abbrev pub ladder : ℕ → Order
ladder n = record { count = n; below = λ a b. both_inside n a b && nat_le a b }

abbrev pub ladder_meets : ℕ → Meets
ladder_meets n = record { meet = λ a b. cond (both_inside n a b) (min a b) 0 }

-- the sets of c members, by inclusion
abbrev pub sets : ℕ → Order
sets c = record { count = 2 ^ c; below = λ a b. both_inside (2 ^ c) a b && within a b }

abbrev pub sets_meets : ℕ → Meets
sets_meets c = record { meet = λ a b. cond (both_inside (2 ^ c) a b) (bit_and a b) 0 }

-- a bad size of an order: argument 4, and the size
abbrev pub bad_size : ℕ → Fault
bad_size n = record { layer = Call Argument; place = (4, n) }
