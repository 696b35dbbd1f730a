-- Bytes placed into a buffer: where they fit they are its front, and past its end they are let go. Assumes nothing.
use Rattle.std.proofs.Common.{◌≡◌, ℕ, ◌+◌, ◌<◌, ◌≤◌, List, [], ◌∷◌, ◌++◌, length, take, drop, set, sym, refl, ap, ◌∙◌, append_assoc, arith}
use Rattle.std.proofs.lemmas.List.{length-set, take_more_set, drop-set-lt, set_past, take-append-drop}
use Rattle.verdict.specs.Puts.{placed}

pub placed_inside : (xs : List ℕ) (at : ℕ) (ys : List ℕ) → at + length ys ≤ length xs → placed xs at ys ≡ take at xs ++ (ys ++ drop (at + length ys) xs)
unfolding placed
placed_inside xs at [] h = let same : at + 0 ≡ at = omega arith in sym (ap (λ n. take at xs ++ drop n xs) same ∙ take-append-drop at xs)
placed_inside xs at (y ∷ ys) h =
    let here : at < length xs = omega arith in
    let rest = placed_inside (set xs at y) (at + 1) ys (omega (arith, length-set xs at y)) in
    let front = take_more_set xs at y here in
    let place : at + 1 + length ys ≡ at + length (y ∷ ys) = omega arith in
    let back = drop-set-lt (at + 1 + length ys) xs at y (omega arith) ∙ ap (λ n. drop n xs) place in
    rest ∙ (λ i. front i ++ (ys ++ back i)) ∙ append_assoc (take at xs) (y ∷ []) _

pub placed_past : (xs : List ℕ) (at : ℕ) (ys : List ℕ) → length xs ≤ at → placed xs at ys ≡ xs
unfolding placed
placed_past xs at [] h = refl
placed_past xs at (y ∷ ys) h =
    ap (λ zs. placed zs (at + 1) ys) (set_past xs at y h) ∙ placed_past xs (at + 1) ys (omega arith)
