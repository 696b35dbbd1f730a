-- The first items of a list, the last of them first, as a stack's are read. Assumes nothing.
use Rattle.std.proofs.Common.{◌≡◌, ℕ, ◌-◌, ◌≤◌, List, reverse, length, take, drop, arith, rules}
use Rattle.std.proofs.lemmas.List.{length-reverse, get_or-reverse, same_lists, places}

-- k items less
pub reverse_less : {X : Type 0} (xs : List X) (n k : ℕ) → n ≤ length xs → reverse (take (n - k) xs) ≡ drop k (reverse (take n xs))
reverse_less xs n k h =
    same_lists _ _ (search (rules, places, length-reverse)) (λ i d below. grind (arith, places, length-reverse, get_or-reverse))
