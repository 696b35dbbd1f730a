-- In an accepted book whatever decides that a part acts, and how, is at or below each of its targets, hence at or below its lane: each
-- such source is a flow, and no flow is forbidden. Assumes nothing.
use Rattle.std.proofs.Common.{◌≡◌, ℕ, ◌<◌, true, cond, eqb, ltb, leb, List, [], ◌∷◌, length, refl, ap, ◌∙◌}
use Rattle.std.specs.List.{AllByRecursion as All}
use Rattle.std.proofs.ByRecursion.{All-weaker}
use Rattle.std.proofs.lemmas.Bool.{and_parts, ltb-true, eq-eqb, cond-true, cond_both}
use Rattle.meaning.specs.Book.{Book, Slot, Rule, Clause}
use Rattle.meaning.specs.Expression.{Expression, Scope, right, right_from, reads, asks}
use Rattle.meaning.specs.Flow.{both_reads, set_by, read_for, watches, watched}
use Rattle.meaning.specs.Sets.{has, with_member}
use Rattle.meaning.specs.WellFormed.{every, right_action}
use Rattle.runs.proofs.Each.{every_all, all_with}
use Rattle.runs.proofs.Members.{has_new, has_still}
use Rattle.runs.proofs.Values.{Inside, reads_keep, reads_onto, both_keep, reads_under, asks_under}

-- what an expression reads is there
pub record Grounded (R : ℕ) (e : Expression) : Type 0 where
  pub own : (r : ℕ) → has (reads 0 e) r ≡ true → r < R
  pub asked : (r : ℕ) → has (asks 0 e) r ≡ true → r < R

pub grounded : (s : Scope) (e : Expression) → right s e ≡ true → Grounded s.resources e
grounded s e h =
    let from = (and_parts (right_from s 0 e) _ h).0 in
    record { own = λ r. reads_under s e r from; asked = λ r. asks_under s e r from }

-- a slot sets a resource that is there, from what is there
pub record Slotted (R : ℕ) (x : Slot) : Type 0 where
  pub target_there : x.target < R
  pub value_there : Grounded R x.value

pub slotted : (s : Scope) (ss : List Slot) → right_action s ss ≡ true → All (Slotted s.resources) ss
slotted s ss h =
    let (_, more) = and_parts (leb (length ss) 4) _ h in
    let (there, rest) = and_parts (every (λ x. ltb x.target s.resources) ss) _ more in
    let (_, values) = and_parts _ (every (λ x. right s x.value) ss) rest in
    all_with (λ x. ltb x.target s.resources ≡ true) (λ x. right s x.value ≡ true) _ ss
    (λ x a v. record { target_there = ltb-true _ _ a; value_there = grounded s x.value v })
    (every_all _ ss there) (every_all _ ss values)

-- the targets of slots are set by them, whatever they are gathered onto
set_keep : (ss : List Slot) (m : ℕ) → Inside m (set_by m ss)
unfolding set_by
set_keep [] m r h = h
set_keep (x ∷ ss) m r h = set_keep ss (with_member m x.target) r (has_still m x.target r h)

set_onto : (ss : List Slot) → All (λ x. (m : ℕ) → has (set_by m ss) x.target ≡ true) ss
unfolding set_by
set_onto [] = tt
set_onto (x ∷ ss) =
    (λ m. set_keep ss (with_member m x.target) x.target (has_new m x.target), All-weaker (λ y. (m : ℕ) → has (set_by m ss) y.target ≡ true) _ (λ y h m. h (with_member m x.target)) ss (set_onto ss))

pub set_all : (ss : List Slot) → All (λ x. has (set_by 0 ss) x.target ≡ true) ss
set_all ss = All-weaker (λ x. (m : ℕ) → has (set_by m ss) x.target ≡ true) _ (λ x h. h 0) ss (set_onto ss)

-- what is read for a target holds what its expression reads
read_keep : (t : ℕ) (ss : List Slot) (m : ℕ) → Inside m (read_for t m ss)
unfolding read_for
read_keep t [] m r h = h
read_keep t (x ∷ ss) m r h =
    read_keep t ss (cond (eqb x.target t) (both_reads m x.value) m) r
    (cond_both (eqb x.target t) (both_reads m x.value) m (λ n. has n r ≡ true) (λ _. both_keep x.value m r h) (λ _. h))

pub read_onto : (ss : List Slot) → All (λ x. (m r : ℕ) → ((n : ℕ) → has (both_reads n x.value) r ≡ true) → has (read_for x.target m ss) r ≡ true) ss
unfolding read_for
read_onto [] = tt
read_onto (x ∷ ss) =
    (λ m r h. read_keep x.target ss _ r (ap (λ n. has n r) (cond-true (eqb x.target x.target) (both_reads m x.value) m (eq-eqb _ _ refl)) ∙ h m), All-weaker (λ y. (m r : ℕ) → ((n : ℕ) → has (both_reads n y.value) r ≡ true) → has (read_for y.target m ss) r ≡ true) _ (λ y k m r h. k (cond (eqb x.target y.target) (both_reads m x.value) m) r h) ss (read_onto ss))

-- what the clauses read that watch a part
module _ (b : Book) (rule : Rule) (p : ℕ) where
  watched_keep : (xs : List Clause) (m : ℕ) → Inside m (watched b rule p m xs)
  unfolding watched
  watched_keep [] m r h = h
  watched_keep (x ∷ xs) m r h =
      watched_keep xs (cond (watches b rule p x) (reads m x.test) m) r
      (cond_both (watches b rule p x) (reads m x.test) m (λ n. has n r ≡ true) (λ _. reads_keep x.test m r h) (λ _. h))

  pub watched_onto : (xs : List Clause) → All (λ x. (m r : ℕ) → watches b rule p x ≡ true → has (reads 0 x.test) r ≡ true → has (watched b rule p m xs) r ≡ true) xs
  unfolding watched
  watched_onto [] = tt
  watched_onto (x ∷ xs) =
      (λ m r w h. watched_keep xs _ r (ap (λ n. has n r) (cond-true (watches b rule p x) (reads m x.test) m w) ∙ reads_onto x.test m r h), All-weaker (λ y. (m r : ℕ) → watches b rule p y ≡ true → has (reads 0 y.test) r ≡ true → has (watched b rule p m xs) r ≡ true) _ (λ y k m r w h. k (cond (watches b rule p x) (reads m x.test) m) r w h) xs (watched_onto xs))
