-- What waits in a lane belongs there: discovery forms updates only where a part can land, and each goes to the lane of its part.
-- Assumes nothing.
use Rattle.std.proofs.Common.{◌≡◌, ℕ, ◌<◌, ◌≤◌, Bool, true, cond, not, ◌&&◌, eqb, leb, [], ◌∷◌, ◌++◌, map, length, filter, sym, refl, ◌∙◌, subst, arith}
use Rattle.std.specs.List.{range_with_len, AllByRecursion as All}
use Rattle.std.proofs.ByRecursion.{All-append, All-take, All-drop, All-map, all_kept_by, kept_by_passes}
use Rattle.std.proofs.lemmas.List.{length-append}
use Rattle.std.proofs.lemmas.Bool.{and_parts, both_ways, eqb-true, leb-true, cond-false, cond_both}
use Rattle.meaning.specs.Book.{Book, devices}
use Rattle.meaning.specs.Flow.{lands}
use Rattle.meaning.specs.Levels.{Meets}
use Rattle.meaning.specs.Sets.{has}
use Rattle.runs.specs.Discovery.{Place, place, default_places, receivers, task_places, places_of, places, goes, form, formed, bound_for, settled}
use Rattle.runs.specs.Lane.{Lane, most_lost, let_in, served, marked, with_lane}
use Rattle.runs.specs.Table.{Table}
use Rattle.runs.specs.Update.{Update, rule_at, lane_of}
use Rattle.runs.proofs.Downward.{Part}
use Rattle.runs.proofs.Each.{all_with, all_counting, all_joined}

-- a part of a rule, on a device where it can land
pub record Proper (b : Book) (i p d : ℕ) : Type 0 where
  pub part_of : Part b i p
  pub device_there : d < devices b
  pub lands_there : lands b (rule_at b i) p d ≡ true

abbrev pub Placed : Book → Place → Type 0
Placed b x = Proper b x.rule x.part x.device

-- an update that waits in the lane m
pub record Fit (M : Meets) (b : Book) (m : ℕ) (u : Update) : Type 0 where
  pub proper : Proper b u.rule u.part u.device
  pub lane_is : lane_of M b u.rule u.part ≡ m

module _ (b : Book) (d : ℕ) (there : d < devices b) where
  default_proper : (i : ℕ) → i < length b.rules → has (rule_at b i).carriers d ≡ true → All (Placed b) (default_places (rule_at b i) i d)
  default_proper i h carries =
      cond_both (leb 1 (length (rule_at b i).defaults)) (place i 0 d ∷ []) [] (All (Placed b))
      (λ some. (record { part_of = record { rule_there = h; part_there = omega arith; some = leb-true _ _ some }; device_there = there; lands_there = carries }, tt))
      (λ _. tt)

  task_proper : (i : ℕ) → i < length b.rules → has (rule_at b i).carriers d ≡ true → All (Placed b) (task_places b (rule_at b i) i d)
  task_proper i h carries =
      let rule = rule_at b i in
      let remote = rule.remote in
      cond_both (leb 1 (length rule.tasks)) (cond remote (map (place i 1) (receivers b rule d)) (place i 1 d ∷ [])) [] (All (Placed b))
      (λ some.
      let part : Part b i 1 = record { rule_there = h; part_there = omega arith; some = leb-true _ _ some } in
      cond_both remote (map (place i 1) (receivers b rule d)) (place i 1 d ∷ []) (All (Placed b))
      (λ _. All-map (Placed b) (place i 1) (receivers b rule d) (others part))
      (λ local. (record { part_of = part; device_there = there; lands_there = cond-false (eqb 1 1 && remote) _ _ local ∙ carries }, tt)))
      (λ _. tt)
    where
      others : Part b i 1 → All (λ e. Placed b (place i 1 e)) (receivers b (rule_at b i) d)
      others part =
          let test : ℕ → Bool = λ e. not (eqb e d) && lands b (rule_at b i) 1 e in
          all_with (λ e. e < devices b) (λ e. test e ≡ true) _ (receivers b (rule_at b i) d)
          (λ e low passes. record { part_of = part; device_there = low; lands_there = (and_parts (not (eqb e d)) _ passes).1 })
          (all_kept_by test (λ e. e < devices b) (range_with_len 0 (devices b)) (all_counting (λ e. e < devices b) 0 (devices b) (λ i lt. omega arith)))
          (kept_by_passes test (range_with_len 0 (devices b)))

  pub places_proper : All (Placed b) (places b d)
  unfolding places
  places_proper =
      all_joined (Placed b) (places_of b d) (range_with_len 0 (length b.rules))
      (all_counting (λ i. All (Placed b) (places_of b d i)) 0 (length b.rules) (λ i lt.
      cond_both (has (rule_at b i).carriers d) (default_places (rule_at b i) i d ++ task_places b (rule_at b i) i d) [] (All (Placed b))
      (λ carries. All-append (Placed b) (default_places (rule_at b i) i d) _ (default_proper i (omega arith) carries) (task_proper i (omega arith) carries))
      (λ _. tt)))

  pub formed_proper : (T : Table) (changed : ℕ) → All (λ u. Proper b u.rule u.part u.device) (formed b T d changed)
  unfolding formed
  formed_proper T changed =
      All-map (λ u. Proper b u.rule u.part u.device) (form b T d) (filter (goes b T d changed) (places b d)) (all_kept_by (goes b T d changed) (Placed b) (places b d) places_proper)

-- what waits fits, losses stop at the most, and a ticket is out only where something waits
pub record Orderly (M : Meets) (b : Book) (m : ℕ) (l : Lane Update) : Type 0 where
  pub fit : All (Fit M b m) l.waiting
  pub few_lost : l.lost ≤ most_lost
  pub ticketed : l.out ≡ true → 1 ≤ length l.waiting

-- one lane replaced
pub with_lane_both : {U : Type 0} (P : ℕ → Lane U → Type 0) (lanes : ℕ → Lane U) (m : ℕ) (l : Lane U) → P m l → ((n : ℕ) → P n (lanes n)) → (n : ℕ) → P n (with_lane lanes m l n)
with_lane_both P lanes m l new old n =
    cond_both (eqb n m) l (lanes n) (P n) (λ h. subst (λ k. P k l) (sym (eqb-true n m h)) new) (λ _. old n)

module _ (M : Meets) (b : Book) where
  pub settled_orderly : (d : ℕ) → d < devices b → (T : Table) (changed : ℕ) (lanes : ℕ → Lane Update) → ((m : ℕ) → Orderly M b m (lanes m)) → (m : ℕ) → Orderly M b m (settled M b lanes (formed b T d changed) m)
  unfolding settled
  settled_orderly d there T changed lanes old m =
      let us = formed b T d changed in
      let mine : Update → Bool = λ u. eqb (lane_of M b u.rule u.part) m in
      let fits = all_with (λ u. Proper b u.rule u.part u.device) (λ u. mine u ≡ true) (Fit M b m) (bound_for M b m us) (λ u p e. record { proper = p; lane_is = eqb-true _ _ e }) (all_kept_by mine _ us (formed_proper b d there T changed)) (kept_by_passes mine us) in
      record {
        fit = All-append (Fit M b m) (lanes m).waiting (let_in (lanes m) (bound_for M b m us)) (old m).fit (All-take (Fit M b m) _ (bound_for M b m us) fits);
        few_lost = omega arith;
        ticketed = λ out. let some = (old m).ticketed out in omega (arith, length-append (lanes m).waiting (let_in (lanes m) (bound_for M b m us)));
      }

  pub served_orderly : (m : ℕ) (l : Lane Update) → Orderly M b m l → Orderly M b m (served l)
  served_orderly m l h = record { fit = All-drop (Fit M b m) 1 l.waiting h.fit; few_lost = h.few_lost; ticketed = λ out. absurd (both_ways _ refl out) }

  pub marked_orderly : (t : Bool) (m : ℕ) (l : Lane Update) → (t ≡ true → 1 ≤ length l.waiting) → Orderly M b m l → Orderly M b m (marked t l)
  marked_orderly t m l some h = record { fit = h.fit; few_lost = h.few_lost; ticketed = some }
