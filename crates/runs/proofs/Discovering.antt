-- What discovery lets into a lane at or below k looks the same from two states that look the same: whatever decides it is at or below
-- the lane, and whatever decides a value that k sees is at or below that target. Assumes nothing.
use Rattle.std.proofs.Common.{◌≡◌, ℕ, ◌<◌, ◌≤◌, Bool, true, false, cond, not, ◌&&◌, ◌||◌, eqb, List, [], ◌∷◌, ◌++◌, map, filter, sym, refl, ap, ◌∙◌, subst, ap₂, ⊎_elim, arith}
use lib.Bits.{and_zero_r}
use Rattle.std.specs.List.{flat_map, AllByRecursion as All}
use Rattle.std.proofs.ByRecursion.{All-weaker}
use Rattle.std.proofs.lemmas.Bool.{cases_Bool, cases_eq, eqb-true, eq-eqb, or_left, and_right, cond-false}
use Rattle.meaning.specs.Book.{Book, Slot, devices, resources}
use Rattle.meaning.specs.Expression.{truth}
use Rattle.meaning.specs.Flow.{level, both_reads}
use Rattle.meaning.specs.Levels.{Order, Meets}
use Rattle.meaning.specs.Sets.{has}
use Rattle.runs.specs.Discovery.{Place, places, goes, form, formed, bound_for, settled}
use Rattle.runs.specs.Lane.{most_lost, accept}
use Rattle.runs.specs.Promises.{Accepted}
use Rattle.runs.specs.State.{State, discovered}
use Rattle.runs.specs.Table.{Table, value_at}
use Rattle.runs.specs.declared.write.Write.{Write}
use Rattle.runs.specs.Update.{Update, rule_at, slots_at, lane_of, assigned, evaluated}
use Rattle.runs.specs.View.{Seen, seen, shown}
use Rattle.runs.proofs.Alike.{low, Same, accept_seen, accept_none, joined_same}
use Rattle.runs.proofs.Downward.{Part, slots_there, condition_there, event_below, condition_below, value_below}
use Rattle.runs.proofs.Members.{share_same, none_has}
use Rattle.runs.proofs.Orderly.{Placed, places_proper}
use Rattle.runs.proofs.Sources.{Slotted}
use Rattle.runs.proofs.Tables.{Agree, value_agree}
use Rattle.runs.proofs.Values.{both_own, both_asked}

-- what is seen of the updates for the lane m, place by place
module _ (M : Meets) (b : Book) (see : Update → Seen) (d m : ℕ) where
  abbrev picked : Table → ℕ → Place → List Seen
  picked T changed x =
      cond (goes b T d changed x && eqb (lane_of M b x.rule x.part) m) (see (form b T d x) ∷ []) []

  by_place : (T : Table) (changed : ℕ) (xs : List Place) → map see (bound_for M b m (map (form b T d) (filter (goes b T d changed) xs))) ≡ flat_map (picked T changed) xs
  by_place T changed [] = refl
  by_place T changed (x ∷ xs) =
      split (goes b T d changed x) (filter (goes b T d changed) xs) ∙ ap (λ ys. picked T changed x ++ ys) (by_place T changed xs)
    where
      mine : Bool
      mine = eqb (lane_of M b x.rule x.part) m

      one : (t : Bool) (us : List Update) → map see (cond t (form b T d x ∷ us) us) ≡ cond t (see (form b T d x) ∷ []) [] ++ map see us
      one true us = refl
      one false us = refl

      split : (g : Bool) (ys : List Place) → map see (bound_for M b m (map (form b T d) (cond g (x ∷ ys) ys))) ≡ cond (g && mine) (see (form b T d x) ∷ []) [] ++ map see (bound_for M b m (map (form b T d) ys))
      split true ys = one mine (bound_for M b m (map (form b T d) ys))
      split false ys = refl

-- with nothing changed nothing is formed
formed_none : (b : Book) (T : Table) (d : ℕ) → formed b T d 0 ≡ []
unfolding formed
formed_none b T d = ap (map (form b T d)) (none (places b d))
  where
    none : (xs : List Place) → filter (goes b T d 0) xs ≡ []
    none [] = refl
    none (x ∷ xs) =
        ap (λ n. cond (not (eqb n 0) && (eqb x.part 0 || truth (value_at T d x.device (rule_at b x.rule).condition))) (x ∷ filter (goes b T d 0) xs) (filter (goes b T d 0) xs)) (and_zero_r (rule_at b x.rule).events)
        ∙ none xs

module _ (o : Order) (M : Meets) (b : Book) (accepted : Accepted o M b) (k : ℕ) where
  -- at or below a level that is at or below k
  under_low : (r l : ℕ) → o.below (level b r) l ≡ true → o.below l k ≡ true → low o b k r ≡ true
  under_low r l one two = accepted.lawful.transitive (level b r) l k one two

  module _ (T U : Table) (agree : Agree b (low o b k) T U) (d : ℕ) (there : d < devices b) where
    -- the values that k sees of an update
    values_same : (i p e : ℕ) → Part b i p → e < devices b → filter (λ w. low o b k w.target) (assigned (slots_at b i p) (evaluated T d e (slots_at b i p))) ≡ filter (λ w. low o b k w.target) (assigned (slots_at b i p) (evaluated U d e (slots_at b i p)))
    unfolding assigned
    values_same i p e part land =
        each (slots_at b i p) (slots_there o M b accepted i p part) (value_below o M b accepted i p part)
      where
        Below : Slot → Type 0
        Below x = (s : ℕ) → s < resources b → ((n : ℕ) → has (both_reads n x.value) s ≡ true) → o.below (level b s) (level b x.target) ≡ true

        kept : (t : Bool) (w v : Write) (ws vs : List Write) → (t ≡ true → w ≡ v) → ws ≡ vs → cond t (w ∷ ws) ws ≡ cond t (v ∷ vs) vs
        kept true w v ws vs same rest = ap₂ (λ x xs. x ∷ xs) (same refl) rest
        kept false w v ws vs same rest = rest

        each : (xs : List Slot) → All (Slotted (resources b)) xs → All Below xs → filter (λ w. low o b k w.target) (assigned xs (evaluated T d e xs)) ≡ filter (λ w. low o b k w.target) (assigned xs (evaluated U d e xs))
        each [] slots below = refl
        each (x ∷ xs) slots below =
            kept (low o b k x.target) _ _ _ _
            (λ it. ap (λ v. record { target = x.target; value = v })
            (value_agree b (low o b k) T U d e x.value there land slots.0.value_there
            (λ r h. under_low r (level b x.target) (below.0 r (slots.0.value_there.own r h) (λ n. both_own x.value n r h)) it)
            (λ r h. under_low r (level b x.target) (below.0 r (slots.0.value_there.asked r h) (λ n. both_asked x.value n r h)) it)
            agree))
            (each xs slots.1 below.1)

    module _ (changed changed' : ℕ) (alike : (r : ℕ) → low o b k r ≡ true → has changed r ≡ has changed' r) (m : ℕ) (below : o.below m k ≡ true) where
      condition_same : (i p e : ℕ) → Part b i p → e < devices b → o.below (lane_of M b i p) k ≡ true → (eqb p 0 || truth (value_at T d e (rule_at b i).condition)) ≡ (eqb p 0 || truth (value_at U d e (rule_at b i).condition))
      condition_same i p e part land lane =
          ⊎_elim
          (λ default. or_left (eqb p 0) _ (eq-eqb p 0 default) ∙ sym (or_left (eqb p 0) _ (eq-eqb p 0 default)))
          (λ task.
          let one : p ≡ 1 = omega (arith, part.part_there) in
          let its : Part b i 1 = subst (Part b i) one part in
          let at : o.below (lane_of M b i 1) k ≡ true = subst (λ q. o.below (lane_of M b i q) k ≡ true) one lane in
          let c = (rule_at b i).condition in
          let grounds = condition_there o M b accepted i 1 its in
          ap (λ v. eqb p 0 || truth v)
          (value_agree b (low o b k) T U d e c there land grounds
          (λ r h. under_low r (lane_of M b i 1) (condition_below o M b accepted i r its (grounds.own r h) (both_own c 0 r h)) at)
          (λ r h. under_low r (lane_of M b i 1) (condition_below o M b accepted i r its (grounds.asked r h) (both_asked c 0 r h)) at)
          agree))
          (cases_eq p 0)

      picked_same : (x : Place) → Placed b x → picked M b (seen o b k) d m T changed x ≡ picked M b (seen o b k) d m U changed' x
      picked_same x proper =
          ⊎_elim
          (λ mine.
          let lane : o.below (lane_of M b x.rule x.part) k ≡ true = subst (λ n. o.below n k ≡ true) (sym (eqb-true _ _ mine)) below in
          let part = proper.part_of in
          let events = share_same (rule_at b x.rule).events changed changed' (λ r h. alike r (under_low r _ (event_below o M b accepted x.rule x.part r part h) lane)) in
          let fires = ap₂ (λ a c. a && c) events (condition_same x.rule x.part x.device part proper.device_there lane) in
          let shows : seen o b k (form b T d x) ≡ seen o b k (form b U d x) = ap (λ vs. record { device = x.device; rule = x.rule; part = x.part; values = vs }) (values_same x.rule x.part x.device part proper.device_there) in
          ap₂ (λ g y. cond (g && eqb (lane_of M b x.rule x.part) m) (y ∷ []) []) fires shows)
          (λ other. cond-false _ _ [] (and_right (goes b T d changed x) _ other) ∙ sym (cond-false _ _ [] (and_right (goes b U d changed' x) _ other)))
          (cases_Bool (eqb (lane_of M b x.rule x.part) m))

      formed_same : map (seen o b k) (bound_for M b m (formed b T d changed)) ≡ map (seen o b k) (bound_for M b m (formed b U d changed'))
      unfolding formed
      formed_same =
          by_place M b (seen o b k) d m T changed (places b d)
          ∙ joined_same _ _ (places b d) (All-weaker (Placed b) _ picked_same (places b d) (places_proper b d there))
          ∙ sym (by_place M b (seen o b k) d m U changed' (places b d))

  -- discovery from two states that look the same
  pub discovered_same : (d : ℕ) → d < devices b → (changed changed' : ℕ) (s t : State) → ((r : ℕ) → low o b k r ≡ true → has changed r ≡ has changed' r) → Same o b k s t → Same o b k (discovered M b d changed s).after (discovered M b d changed' t).after
  unfolding discovered settled
  discovered_same d there changed changed' s t alike h =
      record {
        runs = h.runs;
        cells = h.cells;
        lanes = λ m below. accept_seen (seen o b k) (s.lanes m) _ ∙ ap₂ accept (h.lanes m below) (formed_same s.table t.table h.cells d there changed changed' alike m below) ∙ sym (accept_seen (seen o b k) (t.lanes m) _);
      }

  -- a change of what k does not see leaves what it sees
  pub discovered_beyond : (d : ℕ) → d < devices b → (changed : ℕ) (s : State) → ((r : ℕ) → low o b k r ≡ true → has changed r ≡ false) → ((m : ℕ) → (s.lanes m).lost ≤ most_lost) → Same o b k s (discovered M b d changed s).after
  unfolding discovered settled
  discovered_beyond d there changed s beyond few_lost =
      record {
        runs = refl;
        cells = λ _ _ _ _ _. refl;
        lanes = λ m below.
            let same = formed_same s.table s.table (λ _ _ _ _ _. refl) d there changed 0 (λ r h. beyond r h ∙ sym (none_has r)) m below in
            let none = same ∙ ap (λ us. map (seen o b k) (bound_for M b m us)) (formed_none b s.table d) in
            sym (accept_seen (seen o b k) (s.lanes m) _ ∙ ap (accept (shown o b k (s.lanes m))) none ∙ accept_none (shown o b k (s.lanes m)) (few_lost m));
      }
