-- Elements that stand one after the other, each with its code after the code of the one before: what holds of each element at its
-- place holds of the whole list. Assumes nothing.
use Rattle.std.proofs.Common.{◌≡◌, ℕ, ◌+◌, ◌<◌, ◌≤◌, min, Bool, true, List, [], ◌∷◌, ◌++◌, map, length, get_or, take, drop, Ok, Result, sym, refl, ap, ◌∙◌, subst, add-zero, arith}
use Rattle.std.specs.List.{range_with_len, flat_map}
use Rattle.std.proofs.lemmas.List.{length-append, length-take, length-drop, get_or-take, get_or-drop}
use Rattle.std.proofs.lemmas.Bool.{and_parts}
use Rattle.fault.specs.declared.fault.Fault.{Fault}
use Rattle.meaning.specs.Checks.{require, bind, through}
use Rattle.meaning.specs.WellFormed.{every}
use Rattle.meaning.specs.Layout.{Layout, code_from, room}
use Rattle.meaning.specs.Reading.{Verdict}
use Rattle.meaning.proofs.Stands.{Stands, left, right}

-- a check that passes
pub granted : {A : Type 0} (c : Bool) (f : Fault) (next : Result A Fault) → c ≡ true → require c f next ≡ next
granted c f next e = ap (λ t. require t f next) e

-- a part that passes, and what goes on with its answer
pub bound : {A B : Type 0} (r : Result A Fault) (x : A) (next : A → Result B Fault) → r ≡ Ok x → bind r next ≡ next x
bound r x next e = ap (λ v. bind v next) e

-- P holds of each element, with its place i and the offset `at` of its code
abbrev pub Each : {X : Type 0} → (X → List ℕ) → (ℕ → ℕ → X → Type 0) → ℕ → ℕ → List X → Type 0
Each code P i at [] = Unit {0}
Each code P i at (x ∷ xs) = P i at x × Each code P (i + 1) (at + length (code x)) xs

module _ {X : Type 0} (code : X → List ℕ) where
  pub each_every : (q : X → Bool) (i at : ℕ) (xs : List X) → every q xs ≡ true → Each code (λ j a x. q x ≡ true) i at xs
  unfolding every
  each_every q i at [] h = tt
  each_every q i at (x ∷ xs) h =
      let both = and_parts (q x) (every q xs) h in
      (both.0, each_every q (i + 1) (at + length (code x)) xs both.1)

  module _ (P : ℕ → ℕ → X → Type 0) where
    pub each_both : (Q : ℕ → ℕ → X → Type 0) (i at : ℕ) (xs : List X) → Each code P i at xs → Each code Q i at xs → Each code (λ j a x. P j a x × Q j a x) i at xs
    each_both Q i at [] h k = tt
    each_both Q i at (x ∷ xs) h k = ((h.0, k.0), each_both Q (i + 1) (at + length (code x)) xs h.1 k.1)

    -- checks that hand on the offset of the next code
    pub each_through : (f : ℕ → ℕ → Result ℕ Fault) → ((i at : ℕ) (x : X) → P i at x → f i at ≡ Ok (at + length (code x))) → (i at : ℕ) (xs : List X) → Each code P i at xs → through f (length xs) i at ≡ Ok (at + length (flat_map code xs))
    each_through f pass i at [] h = ap Ok (sym (add-zero at))
    each_through f pass i at (x ∷ xs) h =
        let sum : at + length (code x) + length (flat_map code xs) ≡ at + length (code x ++ flat_map code xs) = omega (arith, length-append (code x) (flat_map code xs)) in
        bound _ _ (λ t. through f (length xs) (i + 1) t) (pass i at x h.0) ∙ each_through f pass (i + 1) (at + length (code x)) xs h.1 ∙ ap Ok sum

    -- checks that hand on nothing
    pub each_passes : (f : ℕ → Unit {0} → Verdict) → ((i at : ℕ) (x : X) → P i at x → f i tt ≡ Ok tt) → (i at : ℕ) (xs : List X) → Each code P i at xs → through f (length xs) i tt ≡ Ok tt
    each_passes f pass i at [] h = refl
    each_passes f pass i at (x ∷ xs) h =
        bound _ _ (λ t. through f (length xs) (i + 1) t) (pass i at x h.0) ∙ each_passes f pass (i + 1) (at + length (code x)) xs h.1

    pub each_read : (g : ℕ → X) → ((i at : ℕ) (x : X) → P i at x → g i ≡ x) → (i at : ℕ) (xs : List X) → Each code P i at xs → map g (range_with_len i (length xs)) ≡ xs
    each_read g read i at [] h = refl
    each_read g read i at (x ∷ xs) h =
        let first = read i at x h.0 in
        let rest = each_read g read (i + 1) (at + length (code x)) xs h.1 in
        λ k. first k ∷ rest k

-- some bytes stand at p, and the code that goes with them at the offset `at` of the code, which has room for it
pub record Held (bs : List ℕ) (l : Layout) (p at : ℕ) (bytes code : List ℕ) : Type 0 where
  pub bytes_stand : Stands bs p bytes
  pub code_stands : Stands bs (code_from l + at) code
  pub fits : at + length code ≤ room l

-- the first part of some code goes with other bytes, and so does what comes after it
module _ {bs : List ℕ} {l : Layout} {p q at : ℕ} {bytes more : List ℕ} (xs ys : List ℕ) (stand : Stands bs q more) (h : Held bs l p at bytes (xs ++ ys)) where
  pub held_front : Held bs l q at more xs
  held_front =
      record { bytes_stand = stand; code_stands = left bs (code_from l + at) xs ys h.code_stands; fits = omega (arith, h.fits, length-append xs ys) }

  pub held_back : Held bs l q (at + length xs) more ys
  held_back =
      let onward : code_from l + (at + length xs) ≡ code_from l + at + length xs = omega arith in
      record { bytes_stand = stand; code_stands = right bs (code_from l + at) (code_from l + (at + length xs)) xs ys onward h.code_stands; fits = omega (arith, h.fits, length-append xs ys) }

-- rows that stand one after the other, the row i at `place i`, hold their elements
module _ {X : Type 0} (code : X → List ℕ) (bytes : ℕ → X → List ℕ) (rows : ℕ → List X → List ℕ) (place : ℕ → ℕ) (bs : List ℕ) (l : Layout) where
  pub each_held : ((at : ℕ) (x : X) (xs : List X) → rows at (x ∷ xs) ≡ bytes at x ++ rows (at + length (code x)) xs) → ((i at : ℕ) (x : X) → place (i + 1) ≡ place i + length (bytes at x)) → (i at : ℕ) (xs : List X) → Held bs l (place i) at (rows at xs) (flat_map code xs) → Each code (λ j a x. Held bs l (place j) a (bytes a x) (code x)) i at xs
  each_held row next i at [] h = tt
  each_held row next i at (x ∷ xs) h =
      let all = subst (Stands bs (place i)) (row at x xs) h.bytes_stand in
      let rest = rows (at + length (code x)) xs in
      let first = left bs (place i) (bytes at x) rest all in
      let others = right bs (place i) (place (i + 1)) (bytes at x) rest (next i at x) all in
      (held_front (code x) (flat_map code xs) first h, each_held row next (i + 1) (at + length (code x)) xs (held_back (code x) (flat_map code xs) others h))

-- a part of what stands at p
pub inside : (bs : List ℕ) (p q n m : ℕ) (xs : List ℕ) → q ≡ p + n → Stands bs p xs → Stands bs q (take m (drop n xs))
inside bs p q n m xs e stand k h =
    let short : k < min m (length (drop n xs)) = subst (λ j. k < j) (length-take m (drop n xs)) h in
    let same : q + k ≡ p + (n + k) = omega arith in
    ap (λ j. get_or bs j 0) same ∙ stand (n + k) (omega (arith, length-drop n xs)) ∙ sym (get_or-take m (drop n xs) k 0 (omega arith) ∙ get_or-drop n xs k 0)
