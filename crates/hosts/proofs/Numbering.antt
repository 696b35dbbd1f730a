-- Words go up from cell to cell, so no two cells share one, and each is below the number of cells. Assumes nothing.
use Rattle.std.proofs.Common.{◌≡◌, ℕ, zero, suc, ◌+◌, ◌-◌, ◌*◌, ◌%◌, ◌^◌, ◌<◌, ◌≤◌, true, ◌⊎◌, List, [], ◌∷◌, length, get_or, take, drop, sym, refl, ap, ◌∙◌, inl, inr, arith}
use lib.Count.{ones}
use Rattle.std.specs.List.{sum_by}
use Rattle.std.proofs.lemmas.List.{take_all}
use Rattle.std.proofs.lemmas.List.Sums.{sum_by-cons}
use Rattle.std.proofs.lemmas.Nat.{ones-le}
use Rattle.std.proofs.lemmas.Bool.{cases_order}
use Rattle.meaning.specs.File.{count_cells}
use Rattle.meaning.specs.Sets.{has}
use Rattle.hosts.specs.Words.{has_cell, word}
use Rattle.hosts.proofs.Members.{ones_grow, ones_within, ones_member}

-- one device more
count_more : (cells : List ℕ) (d : ℕ) → count_cells (take (suc d) cells) ≡ count_cells (take d cells) + ones (get_or cells d 0)
unfolding count_cells ones
count_more [] zero = refl
count_more [] (suc d) = refl
count_more (m ∷ ms) zero = omega arith
count_more (m ∷ ms) (suc d) = omega (arith, count_more ms d)

count_split : (cells : List ℕ) (d : ℕ) → count_cells (take d cells) + count_cells (drop d cells) ≡ count_cells cells
unfolding count_cells
count_split cells zero = omega arith
count_split [] (suc d) = refl
count_split (m ∷ ms) (suc d) = omega (arith, count_split ms d)

count_grows : (cells : List ℕ) (d k : ℕ) → count_cells (take d cells) ≤ count_cells (take (k + d) cells)
count_grows cells d zero = let at : 0 + d ≡ d = omega arith in omega (arith, ap (λ n. count_cells (take n cells)) at)
count_grows cells d (suc k) =
    let at : suc k + d ≡ suc (k + d) = omega arith in
    omega (arith, ap (λ n. count_cells (take n cells)) at, count_more cells (k + d), count_grows cells d k)

-- the cells are as many as the ones of the masks, and a mask of 32 bits has at most 32
pub sum_ones : (cells : List ℕ) → sum_by ones cells ≡ count_cells cells
unfolding count_cells
sum_ones [] = refl
sum_ones (m ∷ ms) = sum_by-cons ones m ms ∙ ap (λ n. ones m + n) (sum_ones ms)

pub count_bounded : (cells : List ℕ) → ((d : ℕ) → get_or cells d 0 < 2 ^ 32) → count_cells cells ≤ 32 * length cells
unfolding count_cells
count_bounded [] fits = omega arith
count_bounded (m ∷ ms) fits = omega (arith, ones-le 32 m (fits 0), count_bounded ms (λ d. fits (suc d)))

module _ (cells : List ℕ) (d r : ℕ) (there : has_cell cells d r ≡ true) where
  -- the cells of the devices up to d are more than those before the cell
  word_below : word cells d r < count_cells (take (suc d) cells)
  word_below =
      omega (arith, count_more cells d, ones_member (get_or cells d 0) r there, ones_within (get_or cells d 0) (1 + r))

  pub word_inside : word cells d r < count_cells cells
  word_inside = omega (arith, word_below, count_split cells (suc d))

  word_earlier : (e s : ℕ) → d < e → word cells d r < word cells e s
  word_earlier e s h =
      let at : e - suc d + suc d ≡ e = omega arith in
      omega (arith, word_below, count_grows cells (suc d) (e - suc d), ap (λ n. count_cells (take n cells)) at)

  word_lower : (s : ℕ) → r < s → word cells d r < word cells d s
  word_lower s h = omega (arith, ones_member (get_or cells d 0) r there, ones_grow (get_or cells d 0) (1 + r) s (omega arith))

-- two cells that have one word are one
pub word_apart : (cells : List ℕ) (d r e s : ℕ) → has_cell cells d r ≡ true → has_cell cells e s ≡ true → word cells d r ≡ word cells e s → (d ≡ e) × (r ≡ s)
word_apart cells d r e s here there same = by_device (cases_order d e)
  where
    by_resource : d ≡ e → (r ≡ s) ⊎ ((r < s) ⊎ (s < r)) → (d ≡ e) × (r ≡ s)
    by_resource at (inl h) = (at, h)
    by_resource at (inr (inl h)) =
        absurd (omega (arith, word_lower cells d r here s h, ap (λ n. word cells n s) at))
    by_resource at (inr (inr h)) =
        absurd (omega (arith, word_lower cells e s there r h, ap (λ n. word cells n r) at))

    by_device : (d ≡ e) ⊎ ((d < e) ⊎ (e < d)) → (d ≡ e) × (r ≡ s)
    by_device (inl h) = by_resource h (cases_order r s)
    by_device (inr (inl h)) = absurd (omega (arith, word_earlier cells d r here e s h))
    by_device (inr (inr h)) = absurd (omega (arith, word_earlier cells e s there d r h))

-- masks that agree at each device have the same cells, and the same word for each
module _ (a b : List ℕ) (agree : (d : ℕ) → get_or a d 0 ≡ get_or b d 0) where
  pub same_has : (d r : ℕ) → has_cell a d r ≡ has_cell b d r
  same_has d r = ap (λ m. has m r) (agree d)

  same_before : (d : ℕ) → count_cells (take d a) ≡ count_cells (take d b)
  same_before zero = refl
  same_before (suc d) = omega (arith, count_more a d, count_more b d, same_before d, ap ones (agree d))

  pub same_word : (d r : ℕ) → word a d r ≡ word b d r
  same_word d r = λ i. same_before d i + ones (agree d i % 2 ^ r)

  pub same_count : count_cells a ≡ count_cells b
  same_count =
      let n = length a + length b in
      sym (ap count_cells (take_all n a (omega arith))) ∙ same_before n ∙ ap count_cells (take_all n b (omega arith))
