-- Writing alters the cells that it names alone, and never which cells there are. Assumes nothing.
use Rattle.std.proofs.Common.{◌≡◌, ℕ, ◌<◌, Bool, true, false, cond, ◌&&◌, eqb, List, [], ◌∷◌, ℤ, is_some, Some, None, filter, Option, sym, refl, ap, ◌∙◌, subst}
use Rattle.std.specs.List.{AllByRecursion as All}
use Rattle.std.proofs.lemmas.Bool.{and_parts, both_ways, eqb-true, cond_both}
use Rattle.meaning.specs.Book.{Book, Slot, devices, resources}
use Rattle.meaning.specs.Expression.{Expression, reads, asks, same}
use Rattle.meaning.specs.Sets.{has, with_member}
use Rattle.runs.specs.State.{differing}
use Rattle.runs.specs.Table.{Table, renewed, write, written, amount, cell, value_at}
use Rattle.runs.specs.declared.write.Write.{Write}
use Rattle.runs.specs.Update.{assigned}
use Rattle.runs.proofs.Members.{has_beside, has_alike, none_has}
use Rattle.runs.proofs.Sources.{Grounded}
use Rattle.runs.proofs.Values.{value_same}

renewed_there : (c : Option ℤ) (v : ℤ) → is_some (renewed c v) ≡ is_some c
renewed_there None v = refl
renewed_there (Some old) v = refl

pub write_there : (T : Table) (d r : ℕ) (v : ℤ) (e s : ℕ) → is_some (write T d r v e s) ≡ is_some (T e s)
write_there T d r v e s =
    cond_both (eqb e d && eqb s r) (renewed (T e s) v) (T e s) (λ c. is_some c ≡ is_some (T e s)) (λ _. renewed_there (T e s) v) (λ _. refl)

pub written_there : (T : Table) (d : ℕ) (ws : List Write) (e s : ℕ) → is_some (written T d ws e s) ≡ is_some (T e s)
unfolding written
written_there T d [] e s = refl
written_there T d (w ∷ ws) e s = written_there (write T d w.target w.value) d ws e s ∙ write_there T d w.target w.value e s

-- a cell that is not named stays
pub write_other : (T : Table) (d r : ℕ) (v : ℤ) (e s : ℕ) → ((e ≡ d) → (s ≡ r) → ⊥) → write T d r v e s ≡ T e s
write_other T d r v e s apart =
    cond_both (eqb e d && eqb s r) (renewed (T e s) v) (T e s) (λ c. c ≡ T e s)
    (λ h. let parts = and_parts (eqb e d) (eqb s r) h in absurd (apart (eqb-true e d parts.0) (eqb-true s r parts.1)))
    (λ _. refl)

pub written_other : (T : Table) (d : ℕ) (ws : List Write) (e s : ℕ) → ((e ≡ d) → All (λ w. s ≡ w.target → ⊥) ws) → written T d ws e s ≡ T e s
unfolding written
written_other T d [] e s apart = refl
written_other T d (w ∷ ws) e s apart =
    written_other (write T d w.target w.value) d ws e s (λ here. (apart here).1) ∙ write_other T d w.target w.value e s (λ here. (apart here).0)

-- what holds of the targets of slots holds of what is written
pub assigned_all : (P : ℕ → Type 0) (ss : List Slot) (vs : List ℤ) → All (λ x. P x.target) ss → All (λ w. P w.target) (assigned ss vs)
unfolding assigned
assigned_all P [] vs all = tt
assigned_all P (x ∷ ss) [] all = tt
assigned_all P (x ∷ ss) (v ∷ vs) all = (all.0, assigned_all P ss vs all.1)

-- a target that comes to differ, beside the members of m
abbrev marked : Table → ℕ → Write → ℕ → ℕ
marked T d w m = cond (same (cell T d w.target) w.value) m (with_member m w.target)

marked_alike : (T U : Table) (d : ℕ) (w : Write) (m n r : ℕ) → cell T d w.target ≡ cell U d w.target → has m r ≡ has n r → has (marked T d w m) r ≡ has (marked U d w n) r
marked_alike T U d w m n r e h =
    ap (λ c. has (cond (same c w.value) m (with_member m w.target)) r) e ∙ either (same (cell U d w.target) w.value)
  where
    either : (t : Bool) → has (cond t m (with_member m w.target)) r ≡ has (cond t n (with_member n w.target)) r
    either true = h
    either false = has_alike m n w.target r h

-- tables that agree on the cells of some resources, on devices of the book
module _ (b : Book) (low : ℕ → Bool) where
  abbrev pub Agree : Table → Table → Type 0
  Agree T U = (d r : ℕ) → d < devices b → r < resources b → low r ≡ true → T d r ≡ U d r

  pub agree_sym : (T U : Table) → Agree T U → Agree U T
  agree_sym T U same d r hd hr h = sym (same d r hd hr h)

  pub agree_trans : (T U V : Table) → Agree T U → Agree U V → Agree T V
  agree_trans T U V one two d r hd hr h = one d r hd hr h ∙ two d r hd hr h

  pub write_agree : (T U : Table) (d r : ℕ) (v : ℤ) → Agree T U → Agree (write T d r v) (write U d r v)
  write_agree T U d r v same e s he hs h = ap (λ c. cond (eqb e d && eqb s r) (renewed c v) c) (same e s he hs h)

  -- only writes to those resources matter
  abbrev pub low_writes : List Write → List Write
  low_writes ws = filter (λ w. low w.target) ws

  written_low : (d : ℕ) (ws : List Write) (T U : Table) → Agree T U → Agree (written T d ws) (written U d (low_writes ws))
  unfolding written
  written_low d [] T U same = same
  written_low d (w ∷ ws) T U same =
      cond_both (low w.target) (w ∷ low_writes ws) (low_writes ws) (λ us. Agree (written (write T d w.target w.value) d ws) (written U d us))
      (λ _. written_low d ws (write T d w.target w.value) (write U d w.target w.value) (write_agree T U d w.target w.value same))
      (λ high. written_low d ws (write T d w.target w.value) U (λ e s he hs h. write_other T d w.target w.value e s (λ _ it. both_ways _ (ap low it ∙ high) h) ∙ same e s he hs h))

  -- so the same such writes keep agreement
  pub written_agree : (d : ℕ) (ws us : List Write) (T U : Table) → low_writes ws ≡ low_writes us → Agree T U → Agree (written T d ws) (written U d us)
  written_agree d ws us T U e same =
      agree_trans (written T d ws) (written U d (low_writes us)) (written U d us)
      (subst (λ xs. Agree (written T d ws) (written U d xs)) e (written_low d ws T U same))
      (agree_sym (written U d us) (written U d (low_writes us)) (written_low d us U U (λ _ _ _ _ _. refl)))

  -- and so do writes to other resources
  pub written_beyond : (d : ℕ) (ws : List Write) (T : Table) → low_writes ws ≡ [] → Agree T (written T d ws)
  unfolding written
  written_beyond d ws T e =
      agree_sym (written T d ws) T (subst (λ xs. Agree (written T d ws) (written T d xs)) e (written_low d ws T T (λ _ _ _ _ _. refl)))

  -- which of those resources come to differ
  differing_low : (d : ℕ) → d < devices b → (ws : List Write) (T U : Table) (m n r : ℕ) → All (λ w. w.target < resources b) ws → Agree T U → low r ≡ true → has m r ≡ has n r → has (differing T d m ws) r ≡ has (differing U d n (low_writes ws)) r
  unfolding differing
  differing_low d hd [] T U m n r there agree h e = e
  differing_low d hd (w ∷ ws) T U m n r there agree h e =
      let t = w.target in
      cond_both (low t) (w ∷ low_writes ws) (low_writes ws) (λ us. has (differing T d (marked T d w m) ws) r ≡ has (differing U d n us) r)
      (λ it. differing_low d hd ws T U (marked T d w m) (marked U d w n) r there.1 agree h (marked_alike T U d w m n r (ap amount (agree d t hd there.0 it)) e))
      (λ high. differing_low d hd ws T U (marked T d w m) n r there.1 agree h (cond_both (same (cell T d t) w.value) m (with_member m t) (λ x. has x r ≡ has n r) (λ _. e) (λ _. has_beside m t r (λ it. both_ways _ high (ap low it ∙ h)) ∙ e)))

  pub differing_agree : (d : ℕ) → d < devices b → (ws us : List Write) (T U : Table) → All (λ w. w.target < resources b) ws → All (λ w. w.target < resources b) us → low_writes ws ≡ low_writes us → Agree T U → (r : ℕ) → low r ≡ true → has (differing T d 0 ws) r ≡ has (differing U d 0 us) r
  differing_agree d hd ws us T U there there' e agree r h =
      differing_low d hd ws T U 0 0 r there agree h refl
      ∙ ap (λ xs. has (differing U d 0 xs) r) e
      ∙ sym (differing_low d hd us U U 0 0 r there' (λ _ _ _ _ _. refl) h refl)

  pub differing_beyond : (d : ℕ) → d < devices b → (ws : List Write) (T : Table) → All (λ w. w.target < resources b) ws → low_writes ws ≡ [] → (r : ℕ) → low r ≡ true → has (differing T d 0 ws) r ≡ false
  unfolding differing
  differing_beyond d hd ws T there e r h =
      differing_low d hd ws T T 0 0 r there (λ _ _ _ _ _. refl) h refl ∙ ap (λ xs. has (differing T d 0 xs) r) e ∙ none_has r

  -- an expression whose reads are among them has one value
  pub value_agree : (T U : Table) (d e : ℕ) (x : Expression) → d < devices b → e < devices b → Grounded (resources b) x → ((r : ℕ) → has (reads 0 x) r ≡ true → low r ≡ true) → ((r : ℕ) → has (asks 0 x) r ≡ true → low r ≡ true) → Agree T U → value_at T d e x ≡ value_at U d e x
  value_agree T U d e x hd he there own asked agree =
      value_same (cell T d) (cell U d) (cell T e) (cell U e) x
      (λ r h. ap amount (agree d r hd (there.own r h) (own r h)))
      (λ r h. ap amount (agree e r he (there.asked r h) (asked r h)))
