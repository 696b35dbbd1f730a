-- Changes, seen at one cell: the last write to it counts, where it is there. Assumes nothing.
use Rattle.std.proofs.Common.{◌≡◌, ℕ, ◌&&◌, cond, eqb, List, [], ◌∷◌, reverse, ℤ, Some, None, Option, refl, arith}
use Rattle.std.proofs.lemmas.Bool.Decides.{nat_tests}
use Rattle.std.proofs.lemmas.Grind.{reverse_onto}
use Rattle.std.proofs.lemmas.List.Folds.{find-append}
use Rattle.std.specs.List.{find}
use Rattle.std.specs.Option.{option_map, unwrap_or}
use Rattle.runs.specs.Table.{Table, write, written}
use Rattle.runs.specs.declared.write.Write.{Write}
use Rattle.evaluation.specs.declared.changes.Changes.{Changes}
use Rattle.evaluation.specs.Posted.{posted, writes_of, last_of, overridden}

-- the last write to a cell is the first from the end
pub last_of_found : (r : ℕ) (v : ℤ) (ws : List Write) → last_of r v ws ≡ unwrap_or (option_map (λ w. w.value) (find (λ w. eqb r w.target) (reverse ws))) v
unfolding last_of
last_of_found r v [] = refl
last_of_found r v (w ∷ ws) =
    grind (arith, nat_tests, reverse_onto, find-append, last_of_found r (cond (eqb r w.target) w.value v) ws)

-- a cell c, after some writes to a device
written_over : (d : ℕ) (ws : List Write) (e r : ℕ) (T : Table) (c : Option ℤ) → T e r ≡ c → written T d ws e r ≡ option_map (λ v. cond (eqb e d) (last_of r v ws) v) c
unfolding written last_of
written_over d [] e r T None h = h
written_over d [] e r T (Some v) h = grind (arith, nat_tests)
written_over d (w ∷ ws) e r T None h = grind (arith, nat_tests, written_over d ws e r (write T d w.target w.value) None)
written_over d (w ∷ ws) e r T (Some v) h =
    grind (arith, nat_tests, written_over d ws e r (write T d w.target w.value) (Some (cond (eqb e d && eqb r w.target) w.value v)))

pub posted_at : (x : Changes) (T : Table) (d r : ℕ) → posted x T d r ≡ option_map (overridden x d r) (T d r)
posted_at x T d r = written_over x.device (writes_of x) d r T (T d r) refl
