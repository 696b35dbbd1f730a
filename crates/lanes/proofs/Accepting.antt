-- To accept some and then others is to accept all of them together: what the first take is room that the others have no more, and a
-- count that has stopped stays. Nothing that happens to a lane takes it past its bounds. Assumes nothing.
use Rattle.std.proofs.Common.{◌≡◌, ℕ, zero, suc, ◌+◌, ◌-◌, ◌<◌, ◌≤◌, min, Bool, List, [], ◌∷◌, ◌++◌, length, take, sym, ap, ◌∙◌, arith}
use Rattle.std.proofs.lemmas.List.{append-nil, append_assoc, length-append, length-take, length-drop, take_all}
use Rattle.runs.specs.Lane.{Lane, lane_length, most_lost, room, let_in, accept, served, marked, with_lane}
use Rattle.runs.proofs.Orderly.{with_lane_both}
pub use Rattle.runs.proofs.Alike.{accept_none}

-- at most 16 wait, and the count of the lost fits its place
pub record Bounded {U : Type 0} (l : Lane U) : Type 0 where
  pub short : length l.waiting ≤ lane_length
  pub few_lost : l.lost ≤ most_lost

module _ {U : Type 0} where
  take-append : (n : ℕ) (us vs : List U) → take n (us ++ vs) ≡ take n us ++ take (n - length us) vs
  take-append zero us vs = let none : 0 ≡ 0 - length us = omega arith in ap (λ k. take k vs) none
  take-append (suc n) [] vs = let all : suc n ≡ suc n - 0 = omega arith in ap (λ k. take k vs) all
  take-append (suc n) (u ∷ us) vs =
      let rest : n - length us ≡ suc n - suc (length us) = omega arith in
      ap (λ xs. u ∷ xs) (take-append n us vs ∙ ap (λ k. take n us ++ take k vs) rest)

  pub accept_both : (l : Lane U) (us vs : List U) → accept (accept l us) vs ≡ accept l (us ++ vs)
  accept_both l us vs =
      let long : length (l.waiting ++ let_in l us) ≡ length l.waiting + min (room l) (length us) = length-append l.waiting (let_in l us) ∙ ap (λ k. length l.waiting + k) (length-take (room l) us) in
      let left : room (accept l us) ≡ room l - length us = omega arith in
      let line = append_assoc l.waiting (let_in l us) _ ∙ ap (λ k. l.waiting ++ (let_in l us ++ take k vs)) left ∙ ap (λ xs. l.waiting ++ xs) (sym (take-append (room l) us vs)) in
      let losses : (accept (accept l us) vs).lost ≡ (accept l (us ++ vs)).lost = omega (arith, length-append us vs) in
      λ i. record { waiting = line i; lost = losses i; out = l.out }

  -- one arrival, where there is room for it and where there is none
  pub accept_one : (l : Lane U) (u : U) → length l.waiting < lane_length → l.lost ≤ most_lost → accept l (u ∷ []) ≡ record { waiting = l.waiting ++ u ∷ []; lost = l.lost; out = l.out }
  accept_one l u some few =
      let line = ap (λ xs. l.waiting ++ xs) (take_all (room l) (u ∷ []) (omega arith)) in
      let losses : (accept l (u ∷ [])).lost ≡ l.lost = omega arith in
      λ i. record { waiting = line i; lost = losses i; out = l.out }

  pub accept_past : (l : Lane U) (u : U) → length l.waiting ≡ lane_length → accept l (u ∷ []) ≡ record { waiting = l.waiting; lost = min most_lost (l.lost + 1); out = l.out }
  accept_past l u full =
      let none : room l ≡ 0 = omega arith in
      let line = ap (λ k. l.waiting ++ take k (u ∷ [])) none ∙ append-nil l.waiting in
      let losses : (accept l (u ∷ [])).lost ≡ min most_lost (l.lost + 1) = omega arith in
      λ i. record { waiting = line i; lost = losses i; out = l.out }

  pub accept_bounded : (l : Lane U) (us : List U) → Bounded l → Bounded (accept l us)
  accept_bounded l us h =
      record { short = omega (arith, h.short, length-append l.waiting (let_in l us), length-take (room l) us); few_lost = omega arith }

  pub served_bounded : (l : Lane U) → Bounded l → Bounded (served l)
  served_bounded l h = record { short = omega (arith, h.short, length-drop 1 l.waiting); few_lost = h.few_lost }

  pub marked_bounded : (t : Bool) (l : Lane U) → Bounded l → Bounded (marked t l)
  marked_bounded t l h = record { short = h.short; few_lost = h.few_lost }

  pub with_lane_bounded : (lanes : ℕ → Lane U) (m : ℕ) (l : Lane U) → Bounded l → ((n : ℕ) → Bounded (lanes n)) → (n : ℕ) → Bounded (with_lane lanes m l n)
  with_lane_bounded lanes m l = with_lane_both (λ _. Bounded) lanes m l
