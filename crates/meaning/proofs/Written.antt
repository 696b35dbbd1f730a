-- Items of a file whose fronts stand one after the other, and whose code stands one after the other in a section of its own.
-- Assumes nothing.
use Rattle.std.proofs.Common.{◌≡◌, ℕ, zero, suc, ◌+◌, ◌<◌, ◌≤◌, Bool, true, List, [], ◌∷◌, ◌++◌, map, length, Ok, Result, sym, ap, ◌∙◌, subst, arith}
use Rattle.std.specs.List.{range_with_len, flat_map}
use Rattle.fault.specs.declared.fault.Fault.{Fault}
use Rattle.meaning.specs.Checks.{through}
use Rattle.meaning.specs.WellFormed.{every}
use Rattle.meaning.proofs.Rows.{both}
use Rattle.meaning.proofs.Fills.{Fills, fills_none, fills_both}
use Rattle.meaning.proofs.Loops.{each, every_row}

-- a front stands from p up to q, and its code, in the code that begins at c, from `at` up to `end`
pub record Written (bs : List ℕ) (c p q at end : ℕ) (front code : List ℕ) : Type 0 where
  pub here : Fills bs p q front
  pub there : Fills bs (c + at) (c + end) code

pub code_ends : {bs : List ℕ} {c p q at end : ℕ} {front code : List ℕ} → Written bs c p q at end front code → end ≡ at + length code
code_ends item = omega (arith, item.there.ends)

pub written_none : (bs : List ℕ) (c p q at end : ℕ) → p ≡ q → at ≡ end → Written bs c p q at end [] []
written_none bs c p q at end e f = record { here = fills_none bs p q e; there = fills_none bs (c + at) (c + end) (omega arith) }

pub written_both : {bs : List ℕ} {c p q r at mid end : ℕ} {xs ys xcode ycode : List ℕ} → Written bs c p q at mid xs xcode → Written bs c q r mid end ys ycode → Written bs c p r at end (xs ++ ys) (xcode ++ ycode)
written_both item rest = record { here = fills_both item.here rest.here; there = fills_both item.there rest.there }

-- bytes with no code of their own, before an item
pub written_after : {bs : List ℕ} {c p q r at end : ℕ} {xs ys code : List ℕ} → Fills bs p q xs → Written bs c q r at end ys code → Written bs c p r at end (xs ++ ys) code
written_after before item = record { here = fills_both before item.here; there = item.there }

-- a row of m items, each checked where the last ended: F lays out the fronts of some items, which `front` lays out one by one
module _ {X : Type 0} (bs : List ℕ) (c m : ℕ) (item : ℕ → X) (place : ℕ → ℕ) (check : ℕ → ℕ → Result ℕ Fault) (front : ℕ → X → List ℕ) (code : X → List ℕ) (F : ℕ → List X → List ℕ) (nil : (at : ℕ) → F at [] ≡ []) (cons : (at : ℕ) (x : X) (xs : List X) → F at (x ∷ xs) ≡ front at x ++ F (at + length (code x)) xs) where
  abbrev Step : ℕ → ℕ → ℕ → Type 0
  Step i at end = Written bs c (place i) (place (i + 1)) at end (front at (item i)) (code (item i))

  row_written : ((i at end : ℕ) → i < m → check i at ≡ Ok end → Step i at end) → (n a q at end : ℕ) → a + n ≤ m → place (a + n) ≡ q → through check n a at ≡ Ok end → Written bs c (place a) q at end (F at (map item (range_with_len a n))) (flat_map code (map item (range_with_len a n)))
  row_written step zero a q at end inside e f =
      let same : a ≡ a + 0 = omega arith in
      subst (λ xs. Written bs c (place a) q at end xs []) (sym (nil at)) (written_none bs c (place a) q at end (ap place same ∙ e) (cc))
  row_written step (suc n) a q at end inside e f =
      let parts = both (check a at) (λ u. through check n (a + 1) u) end f in
      let first = step a at parts.0 (omega arith) parts.1 in
      let xs = map item (range_with_len (a + 1) n) in
      let more : a + 1 + n ≡ a + suc n = omega arith in
      let rest = row_written step n (a + 1) q parts.0 end (omega arith) (ap place more ∙ e) parts.2 in
      subst (λ ys. Written bs c (place a) q at end ys (code (item a) ++ flat_map code xs)) (sym (cons at (item a) xs))
      (written_both first (subst (λ k. Written bs c (place (a + 1)) q parts.0 end (F k xs) (flat_map code xs)) (code_ends first) rest))

  -- such a row stands as a whole, and a test holds of all of it if it holds of each item
  pub row_sound : (good : X → Bool) → ((i at end : ℕ) → i < m → check i at ≡ Ok end → Step i at end × (good (item i) ≡ true)) → (p q at end : ℕ) → place 0 ≡ p → place m ≡ q → through check m 0 at ≡ Ok end → Written bs c p q at end (F at (map item (range_with_len 0 m))) (flat_map code (map item (range_with_len 0 m))) × (every good (map item (range_with_len 0 m)) ≡ true)
  row_sound good step p q at end first last e =
      let all : 0 + m ≡ m = omega arith in (
        subst (λ k. Written bs c k q at end (F at (map item (range_with_len 0 m))) (flat_map code (map item (range_with_len 0 m)))) first
            (row_written (λ i k next lt f. (step i k next lt f).0) m 0 q at end (omega arith) (ap place all ∙ last) e),
        every_row good item m (λ i lt. let one = each check m at end e i lt in (step i one.0 one.1 lt one.2).1),
      )
