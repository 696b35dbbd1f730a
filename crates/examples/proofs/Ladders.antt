-- A ladder obeys the laws of an order with meets. Assumes nothing.
use Rattle.std.proofs.Common.{ℕ, ◌≤◌, arith}
use Rattle.std.proofs.lemmas.Bool.Decides.{nat_tests}
use Rattle.meaning.specs.Levels.{Lawful, Meeting}
use Rattle.levels.specs.Orders.{ladder, ladder_meets}

pub ladder_lawful : (n : ℕ) → 1 ≤ n → n ≤ 16 → Lawful (ladder n)
ladder_lawful n some few =
    record {
      some = some;
      few = few;
      left_inside = λ a b e. grind (arith, nat_tests);
      right_inside = λ a b e. grind (arith, nat_tests);
      reflexive = λ a h. grind (arith, nat_tests);
      transitive = λ a b c e f. grind (arith, nat_tests);
      antisymmetric = λ a b e f. grind (arith, nat_tests);
    }

pub ladder_meeting : (n : ℕ) → Meeting (ladder n) (ladder_meets n)
ladder_meeting n =
    record {
      at_left = λ a b h k. grind (arith, nat_tests);
      at_right = λ a b h k. grind (arith, nat_tests);
      greatest = λ a b c e f. grind (arith, nat_tests);
      outside = λ a b e. grind (arith, nat_tests);
    }
