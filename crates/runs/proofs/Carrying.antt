-- An update of a lane at or below k is carried out alike in two states that look the same, and one of another lane leaves what k sees.
-- Assumes nothing.
use Rattle.std.proofs.Common.{◌≡◌, ℕ, zero, suc, ◌+◌, ◌<◌, ◌≤◌, Bool, true, false, cond, not, ◌&&◌, eqb, List, [], ◌∷◌, length, ℤ, is_some, Some, filter, sym, refl, ap, ◌∙◌, subst, ap₂, ⊎_elim, arith}
use Rattle.std.specs.List.{AllByRecursion as All}
use Rattle.std.proofs.ByRecursion.{All-weaker}
use Rattle.std.proofs.lemmas.Bool.{and_parts, and_from, cases_Bool, both_ways, eqb-true, cond_both, cond-false}
use Rattle.meaning.specs.Book.{Book, resources}
use Rattle.meaning.specs.Expression.{reads, truth}
use Rattle.meaning.specs.Flow.{level, share, lands}
use Rattle.meaning.specs.Levels.{Order, Meets}
use Rattle.meaning.specs.Sets.{has}
use Rattle.runs.specs.Clauses.{holds, concerns, clause_at, first_where, failing}
use Rattle.runs.specs.Lane.{served}
use Rattle.runs.specs.Promises.{Accepted}
use Rattle.runs.specs.State.{State, Turn, Service, with_table, still, discovered, updated, blocked, carried_out, head, removed, turn, idle, one_more, serving}
use Rattle.runs.specs.Table.{Table}
use Rattle.runs.specs.Update.{Update, rule_at, slots_at, lane_of, writes, targets}
use Rattle.runs.specs.View.{seen}
use Rattle.runs.proofs.Alike.{low, Same, same_refl, same_trans, table_same, lane_same, lane_beyond, served_seen, long_same, head_same}
use Rattle.runs.proofs.Discovering.{discovered_same, discovered_beyond}
use Rattle.runs.proofs.Downward.{clausal, clause_below, slots_there, lane_below}
use Rattle.runs.proofs.Good.{Good, by_waiting, head_fits, removed_good, turn_good}
use Rattle.runs.proofs.Orderly.{Fit}
use Rattle.runs.proofs.Sources.{Slotted}
use Rattle.runs.proofs.Tables.{Agree, low_writes, written_agree, written_beyond, differing_agree, differing_beyond, assigned_all, value_agree}

-- tests that agree find the same
pub first_same : (p q : ℕ → Bool) (n i : ℕ) → ((j : ℕ) → j < i + n → p j ≡ q j) → first_where p i n ≡ first_where q i n
unfolding first_where
first_same p q zero i same = refl
first_same p q (suc n) i same =
    ap₂ (λ t rest. cond t (Some i) rest) (same i (omega arith)) (first_same p q n (i + 1) (λ j lt. same j (omega arith)))

-- two services, by whether something waits in both
by_both : (P : Service → Service → Type 0) (us vs : List Update) (x y x' y' : Service) → length us ≡ length vs → P x x' → (1 ≤ length us → 1 ≤ length vs → P y y') → P (elim us [ [] ↦ x | u ∷ rest ↦ y ]) (elim vs [ [] ↦ x' | v ∷ rest ↦ y' ])
by_both P [] [] x y x' y' long none some = none
by_both P [] (v ∷ vs) x y x' y' long none some = absurd (omega arith)
by_both P (u ∷ us) [] x y x' y' long none some = absurd (omega arith)
by_both P (u ∷ us) (v ∷ vs) x y x' y' long none some = some (omega arith) (omega arith)

-- nothing is kept where no element passes
kept_none : {X : Type 0} (p : X → Bool) (xs : List X) → All (λ x. p x ≡ false) xs → filter p xs ≡ []
kept_none p [] h = refl
kept_none p (x ∷ xs) h = cond-false (p x) _ _ h.0 ∙ kept_none p xs h.1

module _ (o : Order) (M : Meets) (b : Book) (accepted : Accepted o M b) (k : ℕ) where
  -- a clause that reads only what is at or below k
  pub holds_same : (T U : Table) → Agree b (low o b k) T U → (j : ℕ) → j < length b.clauses → ((r : ℕ) → has (reads 0 (clause_at b j).test) r ≡ true → low o b k r ≡ true) → holds T (clause_at b j) ≡ holds U (clause_at b j)
  holds_same T U agree j h reads_low =
      let x = clausal o M b accepted j h in
      ap truth (value_agree b (low o b k) T U _ _ (clause_at b j).test x.device_there x.device_there x.test_there reads_low (λ r asked. absurd (x.test_alone r asked)) agree)

  -- the clauses that p picks read only what is at or below k
  pub failing_same : (T U : Table) (d m : ℕ) → Agree b (low o b k) T U → ((j : ℕ) → j < length b.clauses → concerns d m (clause_at b j) ≡ true → (r : ℕ) → has (reads 0 (clause_at b j).test) r ≡ true → low o b k r ≡ true) → failing b T (concerns d m) ≡ failing b U (concerns d m)
  failing_same T U d m agree picks_low =
      first_same _ _ (length b.clauses) 0 (λ j lt.
      let h : j < length b.clauses = omega arith in
      ⊎_elim
      (λ it. ap (λ t. concerns d m (clause_at b j) && not t) (holds_same T U agree j h (picks_low j h it)))
      (λ other. ap (λ t. t && not (holds T (clause_at b j))) other ∙ sym (ap (λ t. t && not (holds U (clause_at b j))) other))
      (cases_Bool (concerns d m (clause_at b j))))

  -- what an update sets is there
  writes_there : (m : ℕ) (u : Update) → Fit M b m u → All (λ w. w.target < resources b) (writes b u)
  writes_there m u fit =
      assigned_all (λ t. t < resources b) (slots_at b u.rule u.part) u.values (All-weaker (Slotted (resources b)) _ (λ x slot. slot.target_there) _ (slots_there o M b accepted u.rule u.part fit.proper.part_of))

  -- the two updates differ at most in values that k does not see
  module _ (m : ℕ) (below : o.below m k ≡ true) (u : Update) (vs : List ℤ) where
    abbrev other : Update
    other = record { device = u.device; rule = u.rule; part = u.part; values = vs }

    module _ (fit : Fit M b m u) (fit' : Fit M b m other) (shows : low_writes b (low o b k) (writes b u) ≡ low_writes b (low o b k) (writes b other)) (s t : State) (h : Same o b k s t) where
      updated_agree : Agree b (low o b k) (updated b s.table u) (updated b t.table other)
      updated_agree = written_agree b (low o b k) u.device (writes b u) (writes b other) s.table t.table shows h.cells

      -- a clause that the update could make false is at or below its lane
      watched_low : (j : ℕ) → j < length b.clauses → concerns u.device (targets b u) (clause_at b j) ≡ true → (r : ℕ) → has (reads 0 (clause_at b j).test) r ≡ true → low o b k r ≡ true
      watched_low j inside it r read =
          let parts = and_parts (eqb (clause_at b j).device u.device) (share (reads 0 (clause_at b j).test) (targets b u)) it in
          let here = eqb-true (clause_at b j).device u.device parts.0 in
          let lands_there = subst (λ e. lands b (rule_at b u.rule) u.part e ≡ true) (sym here) fit.proper.lands_there in
          let at = clause_below o M b accepted u.rule u.part j r fit.proper.part_of inside (and_from _ _ parts.1 lands_there) read in
          accepted.lawful.transitive (level b r) m k (subst (λ n. o.below (level b r) n ≡ true) fit.lane_is at) below

      blocked_other : blocked b s.table u ≡ blocked b t.table other
      blocked_other =
          ap is_some (failing_same (updated b s.table u) (updated b t.table other) u.device (targets b u) updated_agree watched_low)

      carried_other : Same o b k (carried_out M b u s).after (carried_out M b other t).after
      unfolding carried_out
      carried_other =
          either (blocked b s.table u) (blocked b t.table other) blocked_other (still s) (still t) _ _ h
          (discovered_same o M b accepted k u.device fit.proper.device_there _ _ _ _
          (differing_agree b (low o b k) u.device fit.proper.device_there (writes b u) (writes b other) s.table t.table (writes_there m u fit) (writes_there m other fit') shows h.cells)
          (table_same o b k s t _ _ updated_agree h))
        where
          either : (c e : Bool) → c ≡ e → (x x' y y' : Turn) → Same o b k x.after x'.after → Same o b k y.after y'.after → Same o b k (cond c x y).after (cond e x' y').after
          either c e same x x' y y' one two =
              subst (λ w. Same o b k (cond c x y).after (cond w x' y').after) same (elim c as (λ w. Same o b k (cond w x y).after (cond w x' y').after) [ true ↦ one | false ↦ two ])

  -- carried out alike, and answered alike
  pub record Carried (u v : Update) (s t : State) : Type 0 where
    pub device_same : u.device ≡ v.device
    pub rule_same : u.rule ≡ v.rule
    pub part_same : u.part ≡ v.part
    pub blocked_same : blocked b s.table u ≡ blocked b t.table v
    pub carried_same : Same o b k (carried_out M b u s).after (carried_out M b v t).after

  pub carried : (m : ℕ) → o.below m k ≡ true → (u v : Update) → Fit M b m u → Fit M b m v → seen o b k u ≡ seen o b k v → (s t : State) → Same o b k s t → Carried u v s t
  carried m below u v fit fit' shows s t h =
      let like : v ≡ other m below u v.values = λ i. record { device = sym (ap (λ x. x.device) shows) i; rule = sym (ap (λ x. x.rule) shows) i; part = sym (ap (λ x. x.part) shows) i; values = v.values } in
      let P : Update → Type 0 = λ w. Fit M b m w → seen o b k u ≡ seen o b k w → Carried u w s t in
      subst P (sym like)
      (λ its same. record {
        device_same = refl;
        rule_same = refl;
        part_same = refl;
        blocked_same = blocked_other m below u v.values fit its (ap (λ x. x.values) same) s t h;
        carried_same = carried_other m below u v.values fit its (ap (λ x. x.values) same) s t h;
      })
      fit' shows

  -- the head removed from a lane, in both states
  pub removed_same : (m : ℕ) (s t : State) → Same o b k s t → Same o b k (removed s m) (removed t m)
  removed_same m s t h =
      lane_same o b k m s t (served (s.lanes m)) (served (t.lanes m)) (λ below. served_seen (seen o b k) (s.lanes m) ∙ ap served (h.lanes m below) ∙ sym (served_seen (seen o b k) (t.lanes m))) h

  pub turned : (m : ℕ) → o.below m k ≡ true → (s t : State) → 1 ≤ length (s.lanes m).waiting → 1 ≤ length (t.lanes m).waiting → Good M b s → Good M b t → Same o b k s t → Carried (head s m) (head t m) (removed s m) (removed t m)
  turned m below s t some some' good good' h =
      carried m below (head s m) (head t m) (head_fits o M b m s some good) (head_fits o M b m t some' good') (head_same o b k s t h m below some) (removed s m) (removed t m) (removed_same m s t h)

  -- a service of a lane at or below k
  abbrev Alike : Service → Service → Type 0
  Alike x y = (x.count ≡ y.count) × Same o b k x.after y.after

  pub serving_same : (m : ℕ) → o.below m k ≡ true → (n : ℕ) (s t : State) → Good M b s → Good M b t → Same o b k s t → Alike (serving M b m n s) (serving M b m n t)
  unfolding serving
  serving_same m below zero s t good good' h = (refl, h)
  serving_same m below (suc n) s t good good' h =
      by_both Alike (s.lanes m).waiting (t.lanes m).waiting (idle s) (one_more (turn M b m s) (serving M b m n (turn M b m s).after)) (idle t) (one_more (turn M b m t) (serving M b m n (turn M b m t).after)) (long_same o b k s t h m below) (refl, h)
      (λ some some'.
      let next = (turned m below s t some some' good good' h).carried_same in
      let rest = serving_same m below n (turn M b m s).after (turn M b m t).after (turn_good o M b accepted m s some good) (turn_good o M b accepted m t some' good') next in
      (ap (λ c. 1 + c) rest.0, rest.1))

  -- a lane that is not at or below k
  module _ (m : ℕ) (beyond : o.below m k ≡ false) where
    -- sets only what k does not see
    none_low : (u : Update) → Fit M b m u → low_writes b (low o b k) (writes b u) ≡ []
    none_low u fit =
        kept_none (λ w. low o b k w.target) (writes b u)
        (assigned_all (λ t. low o b k t ≡ false) (slots_at b u.rule u.part) u.values
        (All-weaker (λ x. o.below (lane_of M b u.rule u.part) (level b x.target) ≡ true) _
        (λ x at. ⊎_elim (λ it. absurd (both_ways _ beyond (accepted.lawful.transitive m (level b x.target) k (subst (λ n. o.below n (level b x.target) ≡ true) fit.lane_is at) it))) (λ high. high) (cases_Bool (low o b k x.target)))
        (slots_at b u.rule u.part) (lane_below o M b accepted u.rule u.part fit.proper.part_of)))

    carried_beyond : (u : Update) (s : State) → Fit M b m u → Good M b s → Same o b k s (carried_out M b u s).after
    unfolding carried_out
    carried_beyond u s fit good =
        cond_both (blocked b s.table u) (still s) (discovered M b u.device _ _) (λ t. Same o b k s t.after)
        (λ _. same_refl o b k s)
        (λ _.
        let after = with_table s (updated b s.table u) in
        same_trans o b k s after _
        (table_same o b k s s s.table _ (written_beyond b (low o b k) u.device (writes b u) s.table (none_low u fit)) (same_refl o b k s))
        (discovered_beyond o M b accepted k u.device fit.proper.device_there _ after
        (differing_beyond b (low o b k) u.device fit.proper.device_there (writes b u) s.table (writes_there m u fit) (none_low u fit)) (λ n. (good.lanes n).few_lost)))

    pub removed_beyond : (s : State) → Same o b k s (removed s m)
    removed_beyond s = lane_beyond o b k m s (served (s.lanes m)) beyond

    pub turn_beyond : (s : State) → 1 ≤ length (s.lanes m).waiting → Good M b s → Same o b k s (turn M b m s).after
    turn_beyond s some good =
        same_trans o b k s (removed s m) _ (removed_beyond s) (carried_beyond (head s m) (removed s m) (head_fits o M b m s some good) (removed_good o M b m s good))

    pub serving_beyond : (n : ℕ) (s : State) → Good M b s → Same o b k s (serving M b m n s).after
    unfolding serving
    serving_beyond zero s good = same_refl o b k s
    serving_beyond (suc n) s good =
        by_waiting (λ t. Same o b k s t.after) (s.lanes m).waiting (idle s) (one_more (turn M b m s) (serving M b m n (turn M b m s).after))
        (λ _. same_refl o b k s)
        (λ some. same_trans o b k s (turn M b m s).after _ (turn_beyond s some good) (serving_beyond n (turn M b m s).after (turn_good o M b accepted m s some good)))
