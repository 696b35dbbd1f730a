-- A write to the stretch of one lane leaves those of the others, since no two of them overlap. Assumes nothing.
use Rattle.std.proofs.Common.{◌≡◌, ℕ, zero, suc, ◌+◌, ◌-◌, ◌*◌, ◌<◌, ◌≤◌, List, [], ◌∷◌, ◌++◌, length, take, drop, set, sym, refl, ap, ◌∙◌, ⊎_elim, arith}
use borrow.Rule.Slice.PartMut.{put_mid}
use Rattle.std.proofs.lemmas.List.{length-drop, length-take-le, take-take, take-append-le, take_more_set, drop_at, drop-take}
use Rattle.std.proofs.lemmas.Slice.{take-put_mid_below, drop-put_mid}
use Rattle.std.proofs.lemmas.Bool.{cases_lt}
use Rattle.lanes.specs.declared.update.Update.{Update}
use Rattle.lanes.specs.View.{line}

-- a line without its head
shorter : {X : Type 0} (n : ℕ) (xs : List X) → take (n - 1) (drop 1 xs) ≡ drop 1 (take n xs)
shorter zero xs = refl
shorter (suc n) xs =
    let less : suc n - 1 ≡ n = omega arith in
    let more : 1 + n ≡ suc n = omega arith in
    ap (λ j. take j (drop 1 xs)) less ∙ sym (drop-take 1 n xs) ∙ ap (λ j. drop 1 (take j xs)) more

-- in the store xs, ys is written over the k places of the lane m
pub record Written (xs ys : List Update) (m k : ℕ) : Type 0 where
  pub full : k ≡ 16
  pub inside : 16 * m + 16 ≤ length xs
  pub long : length ys ≡ k

-- after such a write
module _ {xs ys : List Update} {m k : ℕ} (w : Written xs ys m k) where
  abbrev after : List Update
  after = put_mid (16 * m) k xs ys

  -- what stood in the k places
  abbrev before : List Update
  before = take k (drop (16 * m) xs)

  before_long : length before ≡ 16
  before_long = length-take-le k (drop (16 * m) xs) (omega (arith, length-drop (16 * m) xs)) ∙ w.full

  line_own : (n : ℕ) → n ≤ 16 → line after m n ≡ take n ys
  line_own n few =
      ap (take n) (drop_at (take (16 * m) xs) _ (16 * m) (length-take-le (16 * m) xs (omega arith)))
      ∙ take-append-le n ys _ (omega arith)

  pub line_other : (n j : ℕ) → j ≤ 16 → (n ≡ m → ⊥) → line after n j ≡ line xs n j
  line_other n j few other =
      ⊎_elim
      (λ below.
      sym (drop-take (16 * n) j after) ∙ ap (drop (16 * n)) (take-put_mid_below (16 * m) k xs ys (16 * n + j) (omega arith) (omega arith)) ∙ drop-take (16 * n) j xs)
      (λ above. ap (take j) (drop-put_mid (16 * m) k xs ys (16 * n) (omega arith) (omega arith) w.long))
      (cases_lt n m)

  pub line_put : (n count : ℕ) (u : Update) → n < 16 → count ≡ n + 1 → ys ≡ set before n u → line after m count ≡ line xs m n ++ u ∷ []
  line_put n count u some more is =
      line_own count (omega arith)
      ∙ (λ i. take (more i) (is i))
      ∙ take_more_set before n u (omega (arith, before_long))
      ∙ ap (λ us. us ++ u ∷ []) (take-take n k (drop (16 * m) xs) (omega arith))

  pub line_rotated : (n count : ℕ) → n ≤ 16 → count ≡ n - 1 → ys ≡ drop 1 before ++ take 1 before → line after m count ≡ drop 1 (line xs m n)
  line_rotated n count few less is =
      line_own count (omega arith)
      ∙ (λ i. take (less i) (is i))
      ∙ take-append-le (n - 1) (drop 1 before) (take 1 before) (omega (arith, before_long, length-drop 1 before))
      ∙ shorter n before
      ∙ ap (drop 1) (take-take n k (drop (16 * m) xs) (omega arith))
