-- A value set at the place of a cell is a write to the table, if no two cells share a place; and masks that agree make one table. Assumes nothing.
use Rattle.std.proofs.Common.{◌≡◌, ℕ, ◌+◌, ◌*◌, ◌<◌, Bool, true, false, cond, ◌&&◌, eqb, ltb, List, length, get_or, set, ℤ, pos, Some, None, refl, ap, ◌∙◌, arith}
use Rattle.std.proofs.lemmas.List.{get_or-set_same, get_or-set_other, length-set, drop-set-lt}
use Rattle.std.proofs.lemmas.Bool.{and_parts, ltb-true, and_from, eqb-true, eq-eqb, both_ways}
use Rattle.std.specs.Bool.{then_some}
use Rattle.std.proofs.lemmas.Option.{same_Some}
use Rattle.meaning.specs.File.{count_cells}
use Rattle.runs.specs.Table.{renewed, write}
use Rattle.hosts.specs.Frames.{past_cells}
use Rattle.hosts.specs.Tables.{laid_out, in_rows, reached, in_words}
use Rattle.hosts.specs.Words.{has_cell, word}
use Rattle.hosts.proofs.Numbering.{word_apart, word_inside, same_has, same_word}

-- a cell, if it is there, before and after a write to it or to another
step : (there here : Bool) (x y v : ℤ) → (there ≡ true → here ≡ true → x ≡ v) → (there ≡ true → here ≡ false → x ≡ y) → cond there (Some x) None ≡ cond here (renewed (cond there (Some y) None) v) (cond there (Some y) None)
step true true x y v set_here set_elsewhere = ap Some (set_here refl refl)
step true false x y v set_here set_elsewhere = ap Some (set_elsewhere refl refl)
step false true x y v set_here set_elsewhere = refl
step false false x y v set_here set_elsewhere = refl

module _ (there : ℕ → ℕ → Bool) (place : ℕ → ℕ → ℕ) (values : List ℤ) (d r : ℕ) (v : ℤ) where
  same_cell : (e s : ℕ) → (eqb e d && eqb s r) ≡ true → (e ≡ d) × (s ≡ r)
  same_cell e s h = let parts = and_parts (eqb e d) _ h in (eqb-true e d parts.0, eqb-true s r parts.1)

  pub written : ((e s : ℕ) → there e s ≡ true → place e s ≡ place d r → (e ≡ d) × (s ≡ r)) → place d r < length values → laid_out there place (set values (place d r) v) ≡ write (laid_out there place values) d r v
  written apart inside =
      λ i e s. step (there e s) (eqb e d && eqb s r) _ _ v (set_here e s) (set_elsewhere e s) i
    where
      set_here : (e s : ℕ) → there e s ≡ true → (eqb e d && eqb s r) ≡ true → get_or (set values (place d r) v) (place e s) (pos 0) ≡ v
      set_here e s h here =
          let same = same_cell e s here in
          (λ i. get_or (set values (place d r) v) (place (same.0 i) (same.1 i)) (pos 0)) ∙ get_or-set_same values (place d r) v (pos 0) inside

      set_elsewhere : (e s : ℕ) → there e s ≡ true → (eqb e d && eqb s r) ≡ false → get_or (set values (place d r) v) (place e s) (pos 0) ≡ get_or values (place e s) (pos 0)
      set_elsewhere e s h other =
          get_or-set_other values (place d r) (place e s) v (pos 0) (λ same. let one = apart e s h same in both_ways _ other (and_from _ _ (eq-eqb e d one.0) (eq-eqb s r one.1)))

-- a place that was found is that of a cell which is there
found : (b : Bool) (at place : ℕ) → Some at ≡ then_some b place → (b ≡ true) × (at ≡ place)
found true at place is = (refl, same_Some at place is)
found false at place is = cc

module _ (cells : List ℕ) (d r at : ℕ) (v : ℤ) where
  -- rows of 32 places do not meet
  pub written_rows : (values : List ℤ) → Some at ≡ then_some (ltb r 32 && has_cell cells d r) (32 * d + r) → at < length values → in_rows cells (set values at v) ≡ write (in_rows cells values) d r v
  written_rows values is inside =
      let here = found (ltb r 32 && has_cell cells d r) at (32 * d + r) is in
      let low = ltb-true r 32 (and_parts (ltb r 32) _ here.0).0 in
      let apart : (e s : ℕ) → (ltb s 32 && has_cell cells e s) ≡ true → 32 * e + s ≡ 32 * d + r → (e ≡ d) × (s ≡ r) = λ e s there same. let small = ltb-true s 32 (and_parts (ltb s 32) _ there).0 in omega arith in
      ap (λ place. in_rows cells (set values place v)) here.1
      ∙ written (λ e s. ltb s 32 && has_cell cells e s) (λ e s. 32 * e + s) values d r v apart (omega (arith, here.1))

  module _ (words : List ℤ) (is : Some at ≡ then_some (reached cells (length words) d r) (word cells d r)) where
    here : (reached cells (length words) d r ≡ true) × (at ≡ word cells d r)
    here = found (reached cells (length words) d r) at (word cells d r) is

    there : (has_cell cells d r ≡ true) × (ltb (word cells d r) (length words) ≡ true)
    there = and_parts (has_cell cells d r) _ here.0

    -- no two cells share a word, and the words stay as many
    pub written_words : in_words cells (set words at v) ≡ write (in_words cells words) d r v
    written_words =
        ap (λ w. in_words cells (set words w v)) here.1
        ∙ ap (λ n. laid_out (reached cells n) (word cells) (set words (word cells d r) v)) (length-set words (word cells d r) v)
        ∙ written (reached cells (length words)) (word cells) words d r v (λ e s h same. word_apart cells e s d r (and_parts (has_cell cells e s) _ h).0 there.0 same) (ltb-true _ _ there.1)

    -- no word past the cells is set
    pub past_kept : past_cells cells (set words at v) ≡ past_cells cells words
    past_kept = drop-set-lt (count_cells cells) words at v (omega (arith, here.1, word_inside cells d r there.0))

module _ (a b : List ℕ) (agree : (d : ℕ) → get_or a d 0 ≡ get_or b d 0) where
  pub same_starts : (starts : List ℤ) → laid_out (has_cell a) (word a) starts ≡ laid_out (has_cell b) (word b) starts
  same_starts starts = λ i. laid_out (λ d r. same_has a b agree d r i) (λ d r. same_word a b agree d r i) starts

  pub same_tables : in_words a ≡ in_words b
  same_tables =
      λ i words. laid_out (λ d r. same_has a b agree d r i && ltb (same_word a b agree d r i) (length words)) (λ d r. same_word a b agree d r i) words
