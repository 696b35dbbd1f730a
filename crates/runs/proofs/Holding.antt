-- A change can make false only the clauses that it concerns; if none of these fails, all hold afterwards. Assumes nothing.
use Rattle.std.proofs.Common.{◌≡◌, ℕ, zero, suc, ◌+◌, ◌<◌, ◌≤◌, Bool, true, false, cond, not, ◌&&◌, eqb, List, length, Some, None, Option, sym, refl, ap, ◌∙◌, subst, ⊎_elim, arith}
use Rattle.std.specs.List.{AllByRecursion as All}
use Rattle.std.proofs.ByRecursion.{All-weaker}
use Rattle.std.proofs.lemmas.Bool.{and_from, cases_Bool, cases_eq, both_ways, eq-eqb, not-false}
use Rattle.meaning.specs.Book.{Book}
use Rattle.meaning.specs.Expression.{truth, reads}
use Rattle.meaning.specs.Flow.{no_clause}
use Rattle.meaning.specs.Levels.{Order, Meets}
use Rattle.meaning.specs.Sets.{has}
use Rattle.meaning.proofs.Loops.{every_at}
use Rattle.runs.specs.Clauses.{holds, all_hold, concerns, clause_at, first_where, failing}
use Rattle.runs.specs.Promises.{Accepted}
use Rattle.runs.specs.Table.{Table, written, amount, cell}
use Rattle.runs.specs.declared.write.Write.{Write}
use Rattle.runs.proofs.Downward.{clausal}
use Rattle.runs.proofs.Each.{every_from}
use Rattle.runs.proofs.Members.{share_from}
use Rattle.runs.proofs.Tables.{written_other}
use Rattle.runs.proofs.Values.{value_same}

not_found : (t : Bool) (i : ℕ) (rest : Option ℕ) → cond t (Some i) rest ≡ None → (t ≡ false) × (rest ≡ None)
not_found true i rest e = absurd (let z : ◌≡◌ {A = ℕ} 0 1 = cc in omega arith)
not_found false i rest e = (refl, e)

-- where nothing is found, nothing is there
first_none : (p : ℕ → Bool) (n i : ℕ) → first_where p i n ≡ None → (j : ℕ) → i ≤ j → j < i + n → p j ≡ false
unfolding first_where
first_none p zero i e j low high = absurd (omega arith)
first_none p (suc n) i e j low high =
    let (here, rest) = not_found (p i) i (first_where p (i + 1) n) e in
    ⊎_elim (λ same. subst (λ k. p k ≡ false) same here) (λ other. first_none p n (i + 1) rest j (omega arith) (omega arith)) (cases_eq i j)

module _ (o : Order) (M : Meets) (b : Book) (accepted : Accepted o M b) (T : Table) (d : ℕ) (ws : List Write) (m : ℕ) (among : All (λ w. has m w.target ≡ true) ws) where
  holds_kept : (j : ℕ) → j < length b.clauses → concerns d m (clause_at b j) ≡ false → holds (written T d ws) (clause_at b j) ≡ holds T (clause_at b j)
  holds_kept j h apart =
      let x = clause_at b j in
      let e = x.device in
      let U = written T d ws in
      ap truth
      (value_same (cell U e) (cell T e) (cell U e) (cell T e) x.test
      (λ r read. ap amount (written_other T d ws e r (λ here. All-weaker (λ w. has m w.target ≡ true) _ (λ w set it. both_ways _ apart (and_from (eqb e d) _ (eq-eqb e d here) (share_from (reads 0 x.test) m r read (ap (has m) it ∙ set)))) ws among)))
      (λ r asked. absurd ((clausal o M b accepted j h).test_alone r asked)))

  pub all_hold_after : all_hold b T ≡ true → failing b (written T d ws) (concerns d m) ≡ None → all_hold b (written T d ws) ≡ true
  all_hold_after before none =
      every_from (holds (written T d ws)) b.clauses no_clause (λ j h.
      let fails = first_none (λ j. concerns d m (clause_at b j) && not (holds (written T d ws) (clause_at b j))) (length b.clauses) 0 none j (omega arith) (omega arith) in
      ⊎_elim
      (λ it. not-false _ (sym (ap (λ t. t && not (holds (written T d ws) (clause_at b j))) it) ∙ fails))
      (λ other. holds_kept j h other ∙ every_at (holds T) b.clauses j no_clause before h)
      (cases_Bool (concerns d m (clause_at b j))))
