-- Masks of 32 bits have no cell past their devices or past their bits, and each cell of a book that is well formed has a start. Assumes nothing.
use Rattle.std.proofs.Common.{◌≡◌, ℕ, ◌^◌, ◌<◌, ◌≤◌, true, false, List, length, get_or, sym, ap, ◌∙◌, inl, inr, arith}
use Rattle.std.proofs.lemmas.List.{get_or_past}
use Rattle.std.proofs.lemmas.Bool.{both_ways, cases_lt}
use Rattle.meaning.specs.Book.{Book, cells_of}
use Rattle.meaning.specs.Sets.{has}
use Rattle.meaning.specs.WellFormed.{WellFormed}
use Rattle.hosts.specs.Words.{has_cell, word}
use Rattle.hosts.proofs.Members.{none_beyond}
use Rattle.hosts.proofs.Numbering.{word_inside, same_has, same_word}

module _ (masks : List ℕ) (d r : ℕ) where
  pub no_device : length masks ≤ d → has_cell masks d r ≡ false
  no_device past = ap (λ m. has m r) (get_or_past masks d 0 past) ∙ none_beyond 0 0 r (omega arith) (omega arith)

  pub no_resource : get_or masks d 0 < 2 ^ 32 → 32 ≤ r → has_cell masks d r ≡ false
  no_resource fits past = none_beyond (get_or masks d 0) 32 r fits past

  pub low_device : has_cell masks d r ≡ true → d < length masks
  low_device there =
      elim (cases_lt d (length masks)) [ inl h ↦ h | inr h ↦ absurd (both_ways _ (no_device h) there) ]

  pub low_resource : get_or masks d 0 < 2 ^ 32 → has_cell masks d r ≡ true → r < 32
  low_resource fits there =
      elim (cases_lt r 32) [ inl h ↦ h | inr h ↦ absurd (both_ways _ (no_resource fits h) there) ]

  pub has_start : (b : Book) → WellFormed b → ((e : ℕ) → get_or masks e 0 ≡ cells_of b e) → has_cell masks d r ≡ true → word masks d r < length b.starts
  has_start b formed agree there =
      omega (arith, word_inside b.cells d r (sym (same_has masks b.cells agree d r) ∙ there), same_word masks b.cells agree d r, formed.2.2)
