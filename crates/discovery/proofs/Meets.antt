-- The meet of the members of a set, one after the other, is their greatest lower bound, and there is but one. Assumes nothing.
use Rattle.std.proofs.Common.{◌≡◌, ℕ, Option, None, Some, ◌^◌, ◌<◌, ◌≤◌, true, List, [], ◌∷◌, map, length, sym, refl, ap, ◌∙◌, subst, ⊎_elim, arith}
use Rattle.std.specs.List.{fold, reduce, AllByRecursion as All}
use Rattle.std.specs.Option.{MatchOption, unwrap_or}
use Rattle.std.specs.Iterator.{ActsAsOnTwo}
use Rattle.std.specs.Iterator.Runs.{Run, IsReduceRun}
use denote.Param.Members.{Mut}
use Rattle.std.proofs.ByRecursion.{All-weaker}
use Rattle.std.proofs.lemmas.Bool.{both_ways}
use Rattle.std.proofs.lemmas.List.{nil_from_length}
use Rattle.meaning.specs.Book.{Book, Slot, resources}
use Rattle.meaning.specs.Flow.{level, set_by}
use Rattle.meaning.specs.Levels.{Order, Lawful, Meets, Meeting}
use Rattle.meaning.specs.Sets.{has, with_member}
use Rattle.runs.specs.Promises.{Accepted}
use Rattle.runs.specs.Update.{level_of}
use Rattle.runs.proofs.Downward.{level_there, level_below, level_above}
use Rattle.runs.proofs.Members.{has_cases, none_has}
use Rattle.runs.proofs.Sources.{Slotted, set_all}
use Rattle.discovery.specs.Members.{members_of}
use Rattle.discovery.specs.Plans.{Comparable, Greatest}
use Rattle.discovery.proofs.Walks.{lowest_first, each_member, of_each_member}

-- what `reduce` gives of the items of a run, where its closure computes h
pub reduced : {S A F : Type 0} {steps : S → Option A → S → Type 0} (p : Run steps) (g : Mut F (A × (A × Unit {0})) A) (f : F) (h : A → A → A) → ActsAsOnTwo g f h → (r : Option A) → MatchOption r (p.len ≡ 0) (IsReduceRun p g f) → r ≡ reduce h p.items
reduced p g f h acts None none = ap (reduce h) (sym (nil_from_length p.items (sym p.long ∙ none)))
reduced p g f h acts (Some y) some = ap Some (some.1.3 h acts) ∙ ap (reduce h) (sym some.1.2)

module _ (o : Order) (M : Meets) (level : ℕ → ℕ) (lawful : Lawful o) (meeting : Meeting o M) where
  -- the meet of a level and those of some resources is at or below each
  met_below : (ts : List ℕ) (m : ℕ) → m < o.count → All (λ t. level t < o.count) ts → (o.below (fold M.meet m (map level ts)) m ≡ true) × All (λ t. o.below (fold M.meet m (map level ts)) (level t) ≡ true) ts
  met_below [] m inside levels = (lawful.reflexive m inside, tt)
  met_below (t ∷ ts) m inside levels =
      let left_of = meeting.at_left m (level t) inside levels.0 in
      let right_of = meeting.at_right m (level t) inside levels.0 in
      let rest = met_below ts (M.meet m (level t)) (lawful.left_inside _ m left_of) levels.1 in
      let trans = lawful.transitive (fold M.meet (M.meet m (level t)) (map level ts)) (M.meet m (level t)) in
      (trans m rest.0 left_of, (trans (level t) rest.0 right_of, rest.1))

  -- and what is at or below each is at or below it
  met_above : (ts : List ℕ) (m c : ℕ) → o.below c m ≡ true → All (λ t. o.below c (level t) ≡ true) ts → o.below c (fold M.meet m (map level ts)) ≡ true
  met_above [] m c under all = under
  met_above (t ∷ ts) m c under all =
      met_above ts (M.meet m (level t)) c (meeting.greatest m (level t) c under all.0) all.1

module _ (o : Order) (M : Meets) (level : ℕ → ℕ) (set : ℕ) (comparable : Comparable o M level set) (small : set < 2 ^ 32) where
  -- the meet of their levels is the greatest level at or below each
  meet_from : (t : ℕ) (ts : List ℕ) → members_of set ≡ t ∷ ts → Greatest o level set (fold M.meet (level t) (map level ts))
  meet_from t ts walk =
      let levels = subst (All (λ r. level r < o.count)) walk (each_member _ set comparable.inside) in
      let below = met_below o M level comparable.lawful comparable.meeting ts (level t) levels.0 levels.1 in
      record {
        lower = of_each_member _ set small (subst (All _) (sym walk) below);
        above = λ c all. let each = subst (All _) walk (each_member _ set all) in met_above o M level comparable.lawful comparable.meeting ts (level t) c each.0 each.1;
      }

  pub members_met : 0 < set → (m : ℕ) → m ≡ unwrap_or (reduce M.meet (map level (members_of set))) 0 → Greatest o level set m
  members_met some m met =
      let walk = lowest_first set some small in
      subst (Greatest o level set) (sym (met ∙ ap (λ ts. unwrap_or (reduce M.meet (map level ts)) 0) walk)) (meet_from _ _ walk)

-- what holds of the targets of slots holds of the members of their set
set_from : (P : ℕ → Type 0) (ss : List Slot) (m : ℕ) → ((t : ℕ) → has m t ≡ true → P t) → All (λ x. P x.target) ss → (t : ℕ) → has (set_by m ss) t ≡ true → P t
unfolding set_by
set_from P [] m old all t h = old t h
set_from P (x ∷ ss) m old all t h =
    set_from P ss (with_member m x.target) (λ r e. ⊎_elim (old r) (λ same. subst P same all.0) (has_cases m x.target r e)) all.1 t h

pub of_targets : (P : ℕ → Type 0) (ss : List Slot) → All (λ x. P x.target) ss → (t : ℕ) → has (set_by 0 ss) t ≡ true → P t
of_targets P ss all t h = set_from P ss 0 (λ r e. absurd (both_ways _ (none_has r) e)) all t h

module _ (o : Order) (M : Meets) (b : Book) (accepted : Accepted o M b) (ss : List Slot) (slots : All (Slotted (resources b)) ss) where
  -- the targets of slots have levels of the order
  pub targets_comparable : Comparable o M (level b) (set_by 0 ss)
  targets_comparable =
      record {
        lawful = accepted.lawful;
        meeting = accepted.meeting;
        inside = of_targets (λ t. level b t < o.count) ss (All-weaker (Slotted (resources b)) _ (λ x slot. level_there o M b accepted x.target slot.target_there) ss slots);
      }

  -- the greatest level at or below them is their meet
  pub lane_is : 1 ≤ length ss → (m : ℕ) → Greatest o (level b) (set_by 0 ss) m → m ≡ level_of M b ss
  lane_is some m greatest =
      accepted.lawful.antisymmetric m (level_of M b ss)
      (level_above o M b accepted ss m some (All-weaker (λ x. has (set_by 0 ss) x.target ≡ true) _ (λ x h. greatest.lower x.target h) ss (set_all ss)))
      (greatest.above (level_of M b ss) (of_targets (λ t. o.below (level_of M b ss) (level b t) ≡ true) ss (level_below o M b accepted ss slots)))

-- it is a level
pub lane_inside : (o : Order) (b : Book) → Lawful o → (ss : List Slot) → 1 ≤ length ss → (m : ℕ) → Greatest o (level b) (set_by 0 ss) m → m < o.count
lane_inside o b lawful [] some m greatest = absurd (omega arith)
lane_inside o b lawful (x ∷ ss) some m greatest =
    lawful.left_inside m (level b x.target) (greatest.lower x.target (set_all (x ∷ ss)).0)

-- slots that set nothing are none
pub no_slots : (ss : List Slot) → set_by 0 ss ≡ 0 → ss ≡ []
no_slots [] none = refl
no_slots (x ∷ ss) none =
    absurd (both_ways _ (none_has x.target) (ap (λ m. has m x.target) (sym none) ∙ (set_all (x ∷ ss)).0))

pub some_slots : (ss : List Slot) → (set_by 0 ss ≡ 0 → ⊥) → 1 ≤ length ss
unfolding set_by
some_slots [] some = absurd (some refl)
some_slots (x ∷ ss) some = omega arith
