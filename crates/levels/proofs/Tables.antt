-- A table with what an order says of each two levels is that order: beyond the levels both say the same. Assumes nothing.
use Rattle.std.proofs.Common.{◌≡◌, ℕ, ◌+◌, ◌*◌, ◌/◌, ◌%◌, ◌<◌, ◌&&◌, cond, List, length, slice_index_or, set, ◌∙◌, ap, arith, sym, subst}
use Rattle.std.proofs.lemmas.List.Edits.{fill_by_more}
use Rattle.std.proofs.lemmas.List.{length-set}
use Rattle.std.proofs.lemmas.Bool.Decides.{nat_tests}
use Rattle.meaning.specs.Levels.{Order, Lawful, Meets, Meeting}
use Rattle.levels.specs.Orders.{both_inside}
use Rattle.levels.specs.Tables.{no_pair, said_at, written, table_order, table_meets}
use Rattle.levels.specs.declared.scale.Pair.{Pair}

-- one entry more
pub entry_more : {X : Type 0} (f : ℕ → X) (xs : List X) (n i : ℕ) (d v : X) → length xs ≡ n → i < n → v ≡ f i → ((j : ℕ) → j < i → slice_index_or xs j d ≡ f j) → (length (set xs i v) ≡ n) × ((j : ℕ) → j < i + 1 → slice_index_or (set xs i v) j d ≡ f j)
entry_more f xs n i d v long inside is each =
    (length-set xs i v ∙ long, λ j h. ap (λ y. slice_index_or (set xs i y) j d) is ∙ fill_by_more f xs i d (omega arith) each j h)

-- a table of n levels is that of an order and its meets, and keeps their laws
pub record IsTableOf (o : Order) (m : Meets) (n : ℕ) (pairs : List Pair) : Type 0 where
  pub ranks : table_order n pairs ≡ o
  pub meets : table_meets n pairs ≡ m
  pub lawful : Lawful (table_order n pairs)
  pub meeting : Meeting (table_order n pairs) (table_meets n pairs)

module _ (o : Order) (m : Meets) (lawful : Lawful o) (meeting : Meeting o m) (n : ℕ) (counted : n ≡ o.count) (pairs : List Pair) (each : (k : ℕ) → k < 256 → slice_index_or pairs k no_pair ≡ said_at o m k) where
  told : (a b : ℕ) → a < o.count → b < o.count → written pairs a b ≡ record { below = o.below a b; meet = m.meet a b }
  told a b low high =
      let few = lawful.few in
      let row : (16 * a + b) / 16 ≡ a = omega arith in
      let column : (16 * a + b) % 16 ≡ b = omega arith in
      each (16 * a + b) (omega arith) ∙ (λ i. record { below = o.below (row i) (column i); meet = m.meet (row i) (column i) })

  compares : (a b : ℕ) → (both_inside n a b && (written pairs a b).below) ≡ o.below a b
  compares a b = grind (arith, nat_tests, told a b, lawful.left_inside a b, lawful.right_inside a b)

  met : (a b : ℕ) → cond (both_inside n a b) (written pairs a b).meet 0 ≡ m.meet a b
  met a b = grind (arith, nat_tests, told a b, meeting.outside a b)

  pub is_table : IsTableOf o m n pairs
  is_table =
      let ranks : table_order n pairs ≡ o = λ i. record { count = counted i; below = λ a b. compares a b i } in
      let meets : table_meets n pairs ≡ m = λ i. record { meet = λ a b. met a b i } in
      record {
        ranks = ranks;
        meets = meets;
        lawful = subst Lawful (sym ranks) lawful;
        meeting = subst (λ x. Meeting x (table_meets n pairs)) (sym ranks) (subst (Meeting o) (sym meets) meeting);
      }
