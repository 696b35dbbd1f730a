-- Where the value of each cell stands at its place in rows of 32, the rows make the same table. Assumes nothing.
use Rattle.std.proofs.Common.{◌≡◌, ℕ, zero, suc, ◌+◌, ◌*◌, ◌/◌, ◌%◌, ◌^◌, ◌<◌, ◌≤◌, Bool, true, false, cond, ◌&&◌, ltb, List, length, get_or, ℤ, pos, Some, None, subst, sym, refl, ap, ◌∙◌, inl, inr, arith}
use denote.Param.Members.{Mut}
use Rattle.std.specs.Array.{IsFromFnResultFrom, IsFromFnResult}
use Rattle.std.specs.Fn.{Called}
use Rattle.std.proofs.lemmas.Bool.{lt-ltb, and_right, cases_lt}
use Rattle.runs.specs.Table.{amount, cell}
use Rattle.hosts.specs.Tables.{laid_out, in_rows}
use Rattle.hosts.specs.Words.{has_cell, word}
use Rattle.hosts.proofs.Within.{no_resource, low_device, low_resource}

-- what an array is made of, from the element i on, if each call leaves f as it is
made_from : {F B : Type 0} (g : Mut F (ℕ × Unit {0}) B) (h : ℕ → B) (f : F) → ((i : ℕ) (y : B) (q : F) → Called g f (i, tt) y q → (y ≡ h i) × (q ≡ f)) → (ys : List B) (i n : ℕ) → IsFromFnResultFrom g f ys i n → (j : ℕ) (d : B) → i ≤ j → j < i + n → get_or ys j d ≡ h j
made_from g h f each ys i zero made j d from low = absurd (omega arith)
made_from g h f each ys i (suc n) (q, y, here, called, rest) j d from low =
    let this = each i y q called in
    elim (cases_lt i j) [
      | inl later ↦ made_from g h f each ys (i + 1) n (subst (λ p. IsFromFnResultFrom g p ys (i + 1) n) this.1 rest) j d (omega arith) (omega arith)
      | inr first ↦ let at : j ≡ i = omega arith in (λ k. get_or ys (at k) d) ∙ here.1 d ∙ this.0 ∙ (λ k. h (sym at k))
    ]

pub made_each : {F B : Type 0} {g : Mut F (ℕ × Unit {0}) B} {f : F} {ys : List B} {n : ℕ} → IsFromFnResult g f ys n → (h : ℕ → B) → ((i : ℕ) (y : B) (q : F) → Called g f (i, tt) y q → (y ≡ h i) × (q ≡ f)) → (d : B) (k : ℕ) → k < n → get_or ys k d ≡ h k
made_each {F} {B} {g} {f} {ys} {n} made h each d k low = made_from g h f each ys 0 n made.each k d (omega arith) (omega arith)

-- two cells alike: both are there or neither, with one value
alike : (t u : Bool) (x y : ℤ) → t ≡ u → (u ≡ true → x ≡ amount (cond u (Some y) None)) → cond t (Some x) None ≡ cond u (Some y) None
alike t true x y same value = ap (λ b. cond b (Some x) None) same ∙ ap Some (value refl)
alike t false x y same value = ap (λ b. cond b (Some x) None) same

module _ (cells : List ℕ) (fits : (d : ℕ) → get_or cells d 0 < 2 ^ 32) (few : length cells ≡ 16) (values : List ℤ) where
  same_there : (d r : ℕ) → (ltb r 32 && has_cell cells d r) ≡ has_cell cells d r
  same_there d r =
      elim (cases_lt r 32) [
        | inl h ↦ ap (λ t. t && has_cell cells d r) (lt-ltb r 32 h)
        | inr h ↦ let none = no_resource cells d r (fits d) h in and_right (ltb r 32) _ none ∙ sym none
      ]

  pub rows_placed : (rows : List ℤ) → ((k : ℕ) → k < 512 → get_or rows k (pos 0) ≡ cell (laid_out (has_cell cells) (word cells) values) (k / 32) (k % 32)) → in_rows cells rows ≡ laid_out (has_cell cells) (word cells) values
  rows_placed rows each = λ i d r. alike _ (has_cell cells d r) _ _ (same_there d r) (value d r) i
    where
      value : (d r : ℕ) → has_cell cells d r ≡ true → get_or rows (32 * d + r) (pos 0) ≡ cell (laid_out (has_cell cells) (word cells) values) d r
      value d r there =
          let low_d = low_device cells d r there in
          let low_r = low_resource cells d r (fits d) there in
          let at_d : (32 * d + r) / 32 ≡ d = omega arith in
          let at_r : (32 * d + r) % 32 ≡ r = omega arith in
          each (32 * d + r) (omega arith) ∙ (λ i. cell (laid_out (has_cell cells) (word cells) values) (at_d i) (at_r i))
