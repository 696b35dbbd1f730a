-- The value of an expression depends on the cells that it reads alone, since only the instruction that reads a cell takes its value;
-- and a right expression reads only resources that there are. Assumes nothing.
use Rattle.std.proofs.Common.{◌≡◌, ℕ, ◌<◌, true, false, ltb, ◌⊎◌, List, [], ◌∷◌, get_or, ℤ, pos, sym, refl, ap, ◌∙◌, subst, inl, inr, ⊎_elim}
use Rattle.std.proofs.lemmas.Bool.{and_parts, ltb-true, both_ways}
use Rattle.meaning.specs.declared.instruction.Instruction.{Instruction}
use Rattle.meaning.specs.declared.instruction.Instruction.TheVariants.{Constant, Own, Receiver, Apply}
use Rattle.meaning.specs.Expression.{Expression, Scope, reads, asks, own_read, asked, value, pushed, stack_after, may_stand, named, deepened, right_from}
use Rattle.meaning.specs.Flow.{both_reads}
use Rattle.meaning.specs.Sets.{has, with_member}
use Rattle.runs.proofs.Members.{has_new, has_still, has_cases, none_has}

-- each member of one set is the other's
abbrev pub Inside : ℕ → ℕ → Type 0
Inside m n = (r : ℕ) → has m r ≡ true → has n r ≡ true

nothing_inside : (n : ℕ) → Inside 0 n
nothing_inside n r e = absurd (both_ways _ (none_has r) e)

-- what an instruction adds to a set: nothing, or one resource, which is there if the instruction is right
abbrev Adds : (ℕ → Instruction → ℕ) → Instruction → Type 0
Adds one i =
    ((m : ℕ) → one m i ≡ m) ⊎ ((j : ℕ) × ((m : ℕ) → one m i ≡ with_member m j) × ((s : Scope) → named s i ≡ true → j < s.resources))

own_adds : (i : Instruction) → Adds own_read i
own_adds (Constant v) = inl (λ _. refl)
own_adds (Own j) = inr (j, λ _. refl, λ s h. ltb-true j s.resources h)
own_adds (Receiver j) = inl (λ _. refl)
own_adds (Apply o) = inl (λ _. refl)

asked_adds : (i : Instruction) → Adds asked i
asked_adds (Constant v) = inl (λ _. refl)
asked_adds (Own j) = inl (λ _. refl)
asked_adds (Receiver j) =
    inr (j, λ _. refl, λ s h. ltb-true j s.resources (and_parts (ltb j s.resources) s.receiver h).0)
asked_adds (Apply o) = inl (λ _. refl)

-- what the instructions of an expression add
abbrev gather : (ℕ → Instruction → ℕ) → ℕ → Expression → ℕ
gather one m [] = m
gather one m (i ∷ e) = gather one (one m i) e

reads_gather : (e : Expression) (m : ℕ) → reads m e ≡ gather own_read m e
unfolding reads
reads_gather [] m = refl
reads_gather (i ∷ e) m = reads_gather e (own_read m i)

asks_gather : (e : Expression) (m : ℕ) → asks m e ≡ gather asked m e
unfolding asks
asks_gather [] m = refl
asks_gather (i ∷ e) m = asks_gather e (asked m i)

module _ (one : ℕ → Instruction → ℕ) (adds : (i : Instruction) → Adds one i) where
  keep_one : (i : Instruction) (m : ℕ) → Inside m (one m i)
  keep_one i m r h =
      ⊎_elim
      (λ same. ap (λ n. has n r) (same m) ∙ h)
      (λ (j, new, _). ap (λ n. has n r) (new m) ∙ has_still m j r h)
      (adds i)

  grow_one : (i : Instruction) (m n : ℕ) → Inside m n → Inside (one m i) (one n i)
  grow_one i m n h r e =
      ⊎_elim
      (λ same. ap (λ x. has x r) (same n) ∙ h r (ap (λ x. has x r) (sym (same m)) ∙ e))
      (λ (j, new, _). ap (λ x. has x r) (new n) ∙ ⊎_elim (λ old. has_still n j r (h r old)) (λ it. subst (λ x. has (with_member n j) x ≡ true) it (has_new n j)) (has_cases m j r (ap (λ x. has x r) (sym (new m)) ∙ e)))
      (adds i)

  under_one : (i : Instruction) (s : Scope) (m r : ℕ) → named s i ≡ true → has (one m i) r ≡ true → (has m r ≡ true) ⊎ (r < s.resources)
  under_one i s m r right e =
      ⊎_elim
      (λ same. inl (ap (λ x. has x r) (sym (same m)) ∙ e))
      (λ (j, new, there). ⊎_elim inl (λ it. inr (subst (λ x. x < s.resources) it (there s right))) (has_cases m j r (ap (λ x. has x r) (sym (new m)) ∙ e)))
      (adds i)

  keeps : (e : Expression) (m : ℕ) → Inside m (gather one m e)
  keeps [] m r h = h
  keeps (i ∷ e) m r h = keeps e (one m i) r (keep_one i m r h)

  grows : (e : Expression) (m n : ℕ) → Inside m n → Inside (gather one m e) (gather one n e)
  grows [] m n h = h
  grows (i ∷ e) m n h = grows e (one m i) (one n i) (grow_one i m n h)

  under_from : (s : Scope) (e : Expression) (depth m r : ℕ) → right_from s depth e ≡ true → has (gather one m e) r ≡ true → (has m r ≡ true) ⊎ (r < s.resources)
  unfolding right_from
  under_from s [] depth m r right h = inl h
  under_from s (i ∷ e) depth m r right h =
      let parts = and_parts (may_stand s depth i) _ right in
      ⊎_elim (under_one i s m r (and_parts (named s i) _ parts.0).0) inr (under_from s e (deepened depth i) (one m i) r parts.1 h)

  under_all : (s : Scope) (e : Expression) (r : ℕ) → right_from s 0 e ≡ true → has (gather one 0 e) r ≡ true → r < s.resources
  under_all s e r right h =
      ⊎_elim (λ none. absurd (both_ways _ (none_has r) none)) (λ lt. lt) (under_from s e 0 0 r right h)

pub reads_keep : (e : Expression) (m : ℕ) → Inside m (reads m e)
reads_keep e m r h = ap (λ n. has n r) (reads_gather e m) ∙ keeps own_read own_adds e m r h

asks_keep : (e : Expression) (m : ℕ) → Inside m (asks m e)
asks_keep e m r h = ap (λ n. has n r) (asks_gather e m) ∙ keeps asked asked_adds e m r h

-- what an expression reads, whatever it is gathered onto
pub reads_onto : (e : Expression) (m : ℕ) → Inside (reads 0 e) (reads m e)
reads_onto e m r h =
    ap (λ n. has n r) (reads_gather e m) ∙ grows own_read own_adds e 0 m (nothing_inside m) r (ap (λ n. has n r) (sym (reads_gather e 0)) ∙ h)

asks_onto : (e : Expression) (m : ℕ) → Inside (asks 0 e) (asks m e)
asks_onto e m r h =
    ap (λ n. has n r) (asks_gather e m) ∙ grows asked asked_adds e 0 m (nothing_inside m) r (ap (λ n. has n r) (sym (asks_gather e 0)) ∙ h)

pub both_keep : (e : Expression) (m : ℕ) → Inside m (both_reads m e)
both_keep e m r h = asks_keep e (reads m e) r (reads_keep e m r h)

pub both_own : (e : Expression) (m : ℕ) → Inside (reads 0 e) (both_reads m e)
both_own e m r h = asks_keep e (reads m e) r (reads_onto e m r h)

pub both_asked : (e : Expression) (m : ℕ) → Inside (asks 0 e) (both_reads m e)
both_asked e m = asks_onto e (reads m e)

-- a right expression reads what is there
pub reads_under : (s : Scope) (e : Expression) (r : ℕ) → right_from s 0 e ≡ true → has (reads 0 e) r ≡ true → r < s.resources
reads_under s e r right h = under_all own_read own_adds s e r right (ap (λ n. has n r) (sym (reads_gather e 0)) ∙ h)

pub asks_under : (s : Scope) (e : Expression) (r : ℕ) → right_from s 0 e ≡ true → has (asks 0 e) r ≡ true → r < s.resources
asks_under s e r right h = under_all asked asked_adds s e r right (ap (λ n. has n r) (sym (asks_gather e 0)) ∙ h)

-- where the receiver may not be read, nothing of it is
asked_none : (s : Scope) (i : Instruction) (m : ℕ) → s.receiver ≡ false → named s i ≡ true → asked m i ≡ m
asked_none s (Constant v) m none right = refl
asked_none s (Own r) m none right = refl
asked_none s (Receiver r) m none right = absurd (both_ways _ none (and_parts (ltb r s.resources) s.receiver right).1)
asked_none s (Apply o) m none right = refl

asks_none : (s : Scope) (e : Expression) (depth m : ℕ) → s.receiver ≡ false → right_from s depth e ≡ true → asks m e ≡ m
unfolding asks right_from
asks_none s [] depth m none right = refl
asks_none s (i ∷ e) depth m none right =
    let parts = and_parts (may_stand s depth i) _ right in
    asks_none s e (deepened depth i) (asked m i) none parts.1 ∙ asked_none s i m none (and_parts (named s i) _ parts.0).0

pub asks_nothing : (s : Scope) (e : Expression) (r : ℕ) → s.receiver ≡ false → right_from s 0 e ≡ true → has (asks 0 e) r ≡ true → ⊥
asks_nothing s e r none right h = both_ways _ (ap (λ m. has m r) (asks_none s e 0 0 none right) ∙ none_has r) h

module _ (own own' receiver receiver' : ℕ → ℤ) where
  stack_same : (e : Expression) (stack : List ℤ) (m n : ℕ) → ((r : ℕ) → has (reads m e) r ≡ true → own r ≡ own' r) → ((r : ℕ) → has (asks n e) r ≡ true → receiver r ≡ receiver' r) → stack_after own receiver stack e ≡ stack_after own' receiver' stack e
  unfolding stack_after reads asks
  stack_same [] stack m n mine theirs = refl
  stack_same (Constant v ∷ e) stack m n mine theirs = stack_same e (v ∷ stack) m n mine theirs
  stack_same (Own i ∷ e) stack m n mine theirs =
      ap (λ v. stack_after own receiver (v ∷ stack) e) (mine i (reads_keep e (with_member m i) i (has_new m i)))
      ∙ stack_same e (own' i ∷ stack) (with_member m i) n mine theirs
  stack_same (Receiver i ∷ e) stack m n mine theirs =
      ap (λ v. stack_after own receiver (v ∷ stack) e) (theirs i (asks_keep e (with_member n i) i (has_new n i)))
      ∙ stack_same e (receiver' i ∷ stack) m (with_member n i) mine theirs
  stack_same (Apply o ∷ e) stack m n mine theirs =
      stack_same e (pushed own receiver stack (Apply o)) m n mine theirs

  -- environments that agree on what an expression reads give it one value
  pub value_same : (e : Expression) → ((r : ℕ) → has (reads 0 e) r ≡ true → own r ≡ own' r) → ((r : ℕ) → has (asks 0 e) r ≡ true → receiver r ≡ receiver' r) → value e own receiver ≡ value e own' receiver'
  value_same e mine theirs = ap (λ vs. get_or vs 0 (pos 0)) (stack_same e [] 0 0 mine theirs)
