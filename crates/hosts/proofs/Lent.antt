-- A host that keeps its masks and the name of its words leaves the words that it held last to their lender. Assumes nothing.
use Rattle.std.proofs.Common.{◌≡◌, ℕ, List, ℤ, sym, ◌∙◌}

-- what some cells make of words, as their table: f is what happened to it in the host, from the words as they were lent to those that came back
pub come_back : {X : Type 0} (make : List ℕ → List ℤ → X) (f : X → X) (cells before after : List ℕ) (words first last back : List ℤ) → make before ≡ make cells → first ≡ words → after ≡ before → back ≡ last → make after last ≡ f (make before first) → make cells back ≡ f (make cells words)
come_back make f cells before after words first last back same lent kept came done =
    (λ i. sym same i (came i)) ∙ (λ i. make (sym kept i) last) ∙ done ∙ (λ i. f (same i (lent i)))
