-- Updates that settle one after the other settle together, and one alone alters its lane alone. Assumes nothing.
use Rattle.std.proofs.Common.{◌≡◌, ℕ, ◌≤◌, Bool, true, false, cond, eqb, List, [], ◌∷◌, ◌++◌, sym, refl, ap, ◌∙◌}
use mathlib.Core.Path.{fun_ext}
use Rattle.std.proofs.lemmas.List.Elements.{filter-append}
use Rattle.std.proofs.lemmas.Bool.{eqb-true, eq-eqb, eqb-false, ne_eqb}
use Rattle.meaning.specs.Book.{Book}
use Rattle.meaning.specs.Levels.{Meets}
use Rattle.runs.specs.Discovery.{bound_for, settled}
use Rattle.runs.specs.Lane.{Lane, most_lost, accept, with_lane}
use Rattle.runs.specs.Update.{Update, lane_of}
use Rattle.lanes.proofs.Accepting.{accept_none, accept_both}

module _ (M : Meets) (b : Book) where
  pub settled_none : (lanes : ℕ → Lane Update) → ((m : ℕ) → (lanes m).lost ≤ most_lost) → lanes ≡ settled M b lanes []
  unfolding settled
  settled_none lanes few = fun_ext (λ m. sym (accept_none (lanes m) (few m)))

  pub settled_both : (lanes : ℕ → Lane Update) (us vs : List Update) → settled M b (settled M b lanes us) vs ≡ settled M b lanes (us ++ vs)
  unfolding settled
  settled_both lanes us vs =
      fun_ext (λ m. accept_both (lanes m) (bound_for M b m us) (bound_for M b m vs) ∙ ap (accept (lanes m)) (sym (filter-append (λ u. eqb (lane_of M b u.rule u.part) m) us vs)))

  -- first some, and then others
  pub settled_then : (lanes next last : ℕ → Lane Update) (us vs : List Update) → next ≡ settled M b lanes us → last ≡ settled M b next vs → last ≡ settled M b lanes (us ++ vs)
  settled_then lanes next last us vs one two = two ∙ ap (λ l. settled M b l vs) one ∙ settled_both lanes us vs

  -- one update arrives at its lane
  pub settled_one : (lanes : ℕ → Lane Update) (u : Update) (m : ℕ) → ((n : ℕ) → (lanes n).lost ≤ most_lost) → m ≡ lane_of M b u.rule u.part → with_lane lanes m (accept (lanes m) (u ∷ [])) ≡ settled M b lanes (u ∷ [])
  unfolding settled
  settled_one lanes u m few is = fun_ext (λ n. by_lane n (eqb n m) refl)
    where
      by_lane : (n : ℕ) (t : Bool) → eqb n m ≡ t → cond t (accept (lanes m) (u ∷ [])) (lanes n) ≡ accept (lanes n) (bound_for M b n (u ∷ []))
      by_lane n true here =
          let same = eqb-true n m here in
          let own = eq-eqb (lane_of M b u.rule u.part) n (sym (same ∙ is)) in
          ap (λ k. accept (lanes k) (u ∷ [])) (sym same) ∙ sym (ap (λ t. accept (lanes n) (cond t (u ∷ []) [])) own)
      by_lane n false other =
          let foreign = ne_eqb (lane_of M b u.rule u.part) n (λ e. eqb-false n m other (sym e ∙ sym is)) in
          sym (ap (λ t. accept (lanes n) (cond t (u ∷ []) [])) foreign ∙ accept_none (lanes n) (few n))

  -- what settles under a test
  pub settled_when : (t : Bool) (lanes last : ℕ → Lane Update) (us : List Update) → t ≡ true → last ≡ settled M b lanes us → last ≡ settled M b lanes (cond t us [])
  settled_when t lanes last us holds h = h ∙ sym (ap (λ c. settled M b lanes (cond c us [])) holds)

  pub settled_unless : (t : Bool) (lanes : ℕ → Lane Update) (us : List Update) → t ≡ false → ((m : ℕ) → (lanes m).lost ≤ most_lost) → lanes ≡ settled M b lanes (cond t us [])
  settled_unless t lanes us fails few = settled_none lanes few ∙ sym (ap (λ c. settled M b lanes (cond c us [])) fails)
