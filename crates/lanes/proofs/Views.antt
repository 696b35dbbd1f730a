-- What waits in a lane is as long as its state says, within the bounds of the memory, and views are equal lane by lane. Assumes nothing.
use Rattle.std.proofs.Common.{◌≡◌, ℕ, zero, suc, ◌-◌, ◌*◌, ◌<◌, ◌≤◌, min, nat_lt, eqb, List, map, length, get_or, take, set, replicate, sym, refl, ap, ◌∙◌, inl, inr, arith}
use Rattle.std.proofs.lemmas.List.{length-take, length-drop, length-map, drop_more, get_or_past, get_or-set_same, get_or-set_other}
use Rattle.std.specs.Bool.{then_some}
use Rattle.std.specs.Option.{option_map}
use Rattle.std.proofs.lemmas.Bool.{eqb-true, eqb-false, cond_both, cases_lt, lt-ltb}
use Rattle.lanes.specs.declared.store.LaneState.{LaneState}
use Rattle.lanes.specs.declared.store.Lanes.{Lanes}
use Rattle.lanes.specs.declared.update.Update.{Update}
use Rattle.lanes.specs.Updates.{update_means}
use Rattle.lanes.proofs.Accepting.{Bounded}
use Rattle.lanes.specs.View.{line, idle, state_at, lane_in, view, first}
use Rattle.runs.specs.Lane.{Lane, empty_lane, with_lane}
use Rattle.runs.specs.Update as meant

line_long : (store : List Update) (m n : ℕ) → length (map update_means (line store m n)) ≡ min n (length store - 16 * m)
line_long store m n =
    length-map (line store m n) update_means ∙ length-take n _ ∙ ap (min n) (length-drop (16 * m) store)

pub view_bounded : (l : Lanes) (m : ℕ) → Bounded (view l m)
unfolding view
view_bounded l m =
    let s = state_at l m in
    record { short = omega (arith, line_long l.store m s.waiting, s.short); few_lost = s.counted }

-- as many wait as the state says, where each state has its stretch
pub view_long : (l : Lanes) (m : ℕ) → 16 * length l.states ≤ length l.store → length (view l m).waiting ≡ (state_at l m).waiting
unfolding view
view_long l m room =
    let s = state_at l m in
    elim (cases_lt m (length l.states)) [
      | inl h ↦ omega (arith, line_long l.store m s.waiting, s.short)
      | inr h ↦ omega (arith, line_long l.store m s.waiting, ap (λ t. t.waiting) (get_or_past l.states m idle h))
    ]

-- lanes that are the same but for one
one_changed : {U : Type 0} (lanes old : ℕ → Lane U) (m : ℕ) (l : Lane U) → lanes m ≡ l → ((n : ℕ) → (n ≡ m → ⊥) → lanes n ≡ old n) → lanes ≡ with_lane old m l
one_changed lanes old m l here others =
    λ i n.
    cond_both (eqb n m) l (old n) (λ x. lanes n ≡ x) (λ same. ap lanes (eqb-true n m same) ∙ here) (λ differs. others n (eqb-false n m differs)) i

-- with a new state of one lane, over a store in which the lines of the others stand as before
pub lane_changed : (l : Lanes) (store : List Update) (m : ℕ) (s : LaneState) (lane : Lane meant.Update) → m < length l.states → ((n j : ℕ) → j ≤ 16 → (n ≡ m → ⊥) → line store n j ≡ line l.store n j) → lane_in store m s ≡ lane → view (record { store = store; states = set l.states m s }) ≡ with_lane (view l) m lane
unfolding view
lane_changed l store m s lane inside same here =
    one_changed _ (view l) m lane
    (ap (lane_in store m) (get_or-set_same l.states m s idle inside) ∙ here)
    (λ n other.
    ap (lane_in store n) (get_or-set_other l.states m n s idle other)
    ∙ (λ i. let t = state_at l n in record { waiting = map update_means (same n t.waiting t.short other i); lost = t.lost; out = t.out }))

-- in a row of one value f sees the same at every place, if it is what f sees of the default
row_alike : {X Y : Type 0} (f : X → Y) (n i : ℕ) (x d : X) → f x ≡ f d → f (get_or (replicate n x) i d) ≡ f d
row_alike f zero i x d same = refl
row_alike f (suc n) zero x d same = same
row_alike f (suc n) (suc i) x d same = row_alike f n i x d same

pub view_row : (l : Lanes) (n m : ℕ) (s : LaneState) → l.states ≡ replicate n s → lane_in l.store m s ≡ empty_lane → view l m ≡ empty_lane
unfolding view
view_row l n m s row empty =
    ap (λ states. lane_in l.store m (get_or states m idle)) row ∙ row_alike (lane_in l.store m) n m s idle empty

-- the oldest stands at the start of the stretch
line_first : (store : List Update) (m n : ℕ) (d : Update) → 16 * m < length store → option_map update_means (then_some (nat_lt 0 n) (get_or store (16 * m) d)) ≡ first (map update_means (line store m n))
line_first store m zero d inside = refl
line_first store m (suc n) d inside =
    ap (λ some. option_map update_means (then_some some (get_or store (16 * m) d))) (lt-ltb 0 (suc n) (omega arith))
    ∙ sym (ap (λ us. first (map update_means (take (suc n) us))) (drop_more store (16 * m) d inside))

pub view_first : (l : Lanes) (m : ℕ) (d : Update) → 16 * m < length l.store → option_map update_means (then_some (nat_lt 0 (state_at l m).waiting) (get_or l.store (16 * m) d)) ≡ first (view l m).waiting
unfolding view
view_first l m d inside = line_first l.store m (state_at l m).waiting d inside
