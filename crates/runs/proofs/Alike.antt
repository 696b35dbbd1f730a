-- To see the same is an equivalence, and what is done alike to two lanes that look the same leaves them so. Assumes nothing.
use Rattle.std.proofs.Common.{◌≡◌, ℕ, ◌+◌, ◌-◌, ◌≤◌, min, Bool, true, false, cond, eqb, List, [], ◌∷◌, ◌++◌, map, length, get_or, take, sym, refl, ap, ◌∙◌, subst, ap₂, arith}
use Rattle.std.specs.List.{flat_map, AllByRecursion as All}
use Rattle.std.proofs.lemmas.List.{append-nil, map-append, length-map, take-map, drop-map, take_all, get_or-map}
use Rattle.std.proofs.lemmas.Bool.{cond_both, both_ways, eqb-true}
use Rattle.meaning.specs.Book.{Book}
use Rattle.meaning.specs.Flow.{level}
use Rattle.meaning.specs.Levels.{Order}
use Rattle.runs.specs.Lane.{Lane, most_lost, room, let_in, accept, served, seen_through, with_lane}
use Rattle.runs.specs.State.{State, with_table, with_lanes, head}
use Rattle.runs.specs.Table.{Table}
use Rattle.runs.specs.Update.{Update, no_update}
use Rattle.runs.specs.View.{seen, shown, SameView}
use Rattle.runs.proofs.Tables.{Agree}

-- lists that are made alike
pub joined_same : {X Y : Type 0} (f g : X → List Y) (xs : List X) → All (λ x. f x ≡ g x) xs → flat_map f xs ≡ flat_map g xs
joined_same f g [] h = refl
joined_same f g (x ∷ xs) h = ap₂ (λ a c. a ++ c) h.0 (joined_same f g xs h.1)

pub map_same : {X Y : Type 0} (f g : X → Y) (xs : List X) → All (λ x. f x ≡ g x) xs → map f xs ≡ map g xs
map_same f g [] h = refl
map_same f g (x ∷ xs) h = ap₂ (λ a c. a ∷ c) h.0 (map_same f g xs h.1)

-- what is done to a lane shows in what is seen of it
module _ {U V : Type 0} (f : U → V) where
  pub accept_seen : (l : Lane U) (us : List U) → seen_through f (accept l us) ≡ accept (seen_through f l) (map f us)
  accept_seen l us =
      let n : room l ≡ room (seen_through f l) = ap (λ k. 16 - k) (sym (length-map l.waiting f)) in
      let line = map-append f l.waiting (let_in l us) ∙ ap (λ xs. map f l.waiting ++ xs) (sym (take-map f (room l) us) ∙ ap (λ k. take k (map f us)) n) in
      let losses = ap₂ (λ a c. min most_lost (l.lost + (a - c))) (sym (length-map us f)) n in
      λ i. record { waiting = line i; lost = losses i; out = l.out }

  pub served_seen : (l : Lane U) → seen_through f (served l) ≡ served (seen_through f l)
  served_seen l = let line = sym (drop-map f 1 l.waiting) in λ i. record { waiting = line i; lost = l.lost; out = false }

-- no arrivals
pub accept_none : {U : Type 0} (l : Lane U) → l.lost ≤ most_lost → accept l [] ≡ l
accept_none l few =
    let line = ap (λ xs. l.waiting ++ xs) (take_all (room l) [] (omega arith)) ∙ append-nil l.waiting in
    let losses : min most_lost (l.lost + (0 - room l)) ≡ l.lost = omega arith in
    λ i. record { waiting = line i; lost = losses i; out = l.out }

module _ (o : Order) (b : Book) (k : ℕ) where
  -- resources at or below k
  abbrev pub low : ℕ → Bool
  low r = o.below (level b r) k

  abbrev pub Same : State → State → Type 0
  Same s t = SameView o b k s t

  pub same_refl : (s : State) → Same s s
  same_refl s = record { runs = refl; cells = λ _ _ _ _ _. refl; lanes = λ _ _. refl }

  pub same_sym : (s t : State) → Same s t → Same t s
  same_sym s t h =
      record { runs = sym h.runs; cells = λ d r hd hr below. sym (h.cells d r hd hr below); lanes = λ m below. sym (h.lanes m below) }

  pub same_trans : (s t u : State) → Same s t → Same t u → Same s u
  same_trans s t u h g =
      record {
        runs = h.runs ∙ g.runs;
        cells = λ d r hd hr below. h.cells d r hd hr below ∙ g.cells d r hd hr below;
        lanes = λ m below. h.lanes m below ∙ g.lanes m below;
      }

  -- the table alone
  pub table_same : (s t : State) (T U : Table) → Agree b low T U → Same s t → Same (with_table s T) (with_table t U)
  table_same s t T U agree h = record { runs = h.runs; cells = agree; lanes = h.lanes }

  -- one lane replaced in both, or in one of them beyond k
  pub lane_same : (m : ℕ) (s t : State) (l n : Lane Update) → (o.below m k ≡ true → shown o b k l ≡ shown o b k n) → Same s t → Same (with_lanes s (with_lane s.lanes m l)) (with_lanes t (with_lane t.lanes m n))
  lane_same m s t l n alike h =
      record {
        runs = h.runs;
        cells = h.cells;
        lanes = λ j below. either (eqb j m) (λ here. alike (subst (λ i. o.below i k ≡ true) (eqb-true j m here) below)) (h.lanes j below);
      }
    where
      either : {j : ℕ} (t₁ : Bool) → (t₁ ≡ true → shown o b k l ≡ shown o b k n) → shown o b k (s.lanes j) ≡ shown o b k (t.lanes j) → shown o b k (cond t₁ l (s.lanes j)) ≡ shown o b k (cond t₁ n (t.lanes j))
      either true new old = new refl
      either false new old = old

  pub lane_beyond : (m : ℕ) (s : State) (l : Lane Update) → o.below m k ≡ false → Same s (with_lanes s (with_lane s.lanes m l))
  lane_beyond m s l beyond =
      record {
        runs = refl;
        cells = λ _ _ _ _ _. refl;
        lanes = λ j below. cond_both (eqb j m) l (s.lanes j) (λ x. shown o b k (s.lanes j) ≡ shown o b k x) (λ here. absurd (both_ways _ beyond (subst (λ i. o.below i k ≡ true) (eqb-true j m here) below))) (λ _. refl);
      }

  -- what is seen of a lane tells whether a ticket is out, how many wait, and what is seen of the head
  module _ (s t : State) (h : Same s t) (m : ℕ) (below : o.below m k ≡ true) where
    pub out_same : (s.lanes m).out ≡ (t.lanes m).out
    out_same = ap (λ l. l.out) (h.lanes m below)

    pub lost_same : (s.lanes m).lost ≡ (t.lanes m).lost
    lost_same = ap (λ l. l.lost) (h.lanes m below)

    pub long_same : length (s.lanes m).waiting ≡ length (t.lanes m).waiting
    long_same =
        sym (length-map (s.lanes m).waiting (seen o b k)) ∙ ap (λ l. length l.waiting) (h.lanes m below) ∙ length-map (t.lanes m).waiting (seen o b k)

    pub head_same : 1 ≤ length (s.lanes m).waiting → seen o b k (head s m) ≡ seen o b k (head t m)
    head_same some =
        let none = seen o b k no_update in
        let there : 1 ≤ length (t.lanes m).waiting = subst (λ n. 1 ≤ n) long_same some in
        sym (get_or-map (seen o b k) (s.lanes m).waiting 0 no_update none some)
        ∙ ap (λ l. get_or l.waiting 0 none) (h.lanes m below)
        ∙ get_or-map (seen o b k) (t.lanes m).waiting 0 no_update none there
