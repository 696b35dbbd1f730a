-- Checks in a row. Assumes nothing.
use Rattle.std.proofs.Common.{◌≡◌, ℕ, suc, ◌+◌, ◌-◌, ◌<◌, ◌≤◌, Bool, true, false, IsErrAnd, Ok, Err, Result, sym, refl, ap, ◌∙◌, arith}
use Rattle.fault.specs.declared.fault.Fault.{Fault}
use Rattle.meaning.specs.Checks.{require, bind, through}

-- a loop over n checks: what is left at i answers what the whole does, w
module _ {S : Type 0} (f : ℕ → S → Result S Fault) where
  -- before the first turn
  pub begins : (n : ℕ) (s : S) → through f (n - 0) 0 s ≡ through f n 0 s
  begins n s = let all : n - 0 ≡ n = omega arith in ap (λ k. through f k 0 s) all

  -- a turn that goes on
  pub goes_on : (n i : ℕ) (s t : S) (w : Result S Fault) → i < n → f i s ≡ Ok t → through f (n - i) i s ≡ w → through f (n - (i + 1)) (i + 1) t ≡ w
  goes_on n i s t w h e inv =
      let left : n - i ≡ suc (n - (i + 1)) = omega arith in
      sym (ap (λ k. through f k i s) left ∙ ap (λ r. bind r (λ u. through f (n - (i + 1)) (i + 1) u)) e) ∙ inv

  -- a turn that refuses
  pub refuses : (n i : ℕ) (s : S) (y : Fault) (w : Result S Fault) → i < n → f i s ≡ Err y → through f (n - i) i s ≡ w → Err y ≡ w
  refuses n i s y w h e inv =
      let left : n - i ≡ suc (n - (i + 1)) = omega arith in
      sym (ap (λ k. through f k i s) left ∙ ap (λ r. bind r (λ u. through f (n - (i + 1)) (i + 1) u)) e) ∙ inv

  -- after the last turn
  pub ends : (n i : ℕ) (s : S) (w : Result S Fault) → n ≤ i → through f (n - i) i s ≡ w → Ok s ≡ w
  ends n i s w h inv = let left : n - i ≡ 0 = omega arith in sym (ap (λ k. through f k i s) left) ∙ inv

-- a test that was passed, and what came after it
pub passed : {A : Type 0} (c : Bool) (f : Fault) (next : Result A Fault) (x : A) → require c f next ≡ Ok x → (c ≡ true) × (next ≡ Ok x)
passed true f next x e = (refl, e)
passed false f next x e = absurd (let z : ◌≡◌ {A = ℕ} 0 1 = cc in omega arith)

-- the two parts of a bind that went through
pub both : {A B : Type 0} (r : Result A Fault) (next : A → Result B Fault) (y : B) → bind r next ≡ Ok y → (x : A) × (r ≡ Ok x) × (next x ≡ Ok y)
both (Ok x) next y e = (x, refl, e)
both (Err f) next y e = absurd (let z : ◌≡◌ {A = ℕ} 0 1 = cc in omega arith)

-- what a `?` hands on is the fault that the call before it answered
pub handed : {T : Type 0} {x : Fault} (r : Result T Fault) → IsErrAnd r (λ y. y ≡ x) → r ≡ Err x
handed (Ok t) h = absurd h
handed (Err y) h = ap Err h
