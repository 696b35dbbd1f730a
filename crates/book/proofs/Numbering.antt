-- What a table means has at each place what the entry there means, so the rules and clauses in use are right and in their places.
-- Assumes nothing.
use Rattle.std.proofs.Common.{◌≡◌, ℕ, ◌<◌, Bool, true, ltb, List, map, length, get_or, take, sym, ap, ◌∙◌, arith}
use Rattle.std.proofs.lemmas.List.{length-map, get_or-map}
use Rattle.std.proofs.lemmas.Bool.{ltb-true, and_parts}
use Rattle.meaning.specs.Book.{devices, resources}
use Rattle.meaning.specs.Flow.{no_rule, no_clause}
use Rattle.meaning.specs.WellFormed.{every, right_rule, right_clause, WellFormed}
use Rattle.book.specs.declared.book.Book.{Book}
use Rattle.book.specs.declared.rule.Rule.{Rule}
use Rattle.book.specs.declared.rule.Clause.{Clause}
use Rattle.book.specs.Means.{code_of, rule_means, clause_means, means}
use Rattle.book.specs.Rights.{RightRule, RightClause, Numbered, Counted}
use Rattle.book.proofs.Rightness.{every_at}

module _ {X Y : Type 0} (f : X → Y) (table used : List X) (is : used ≡ table) where
  pub same_length : length used ≡ length (map f table)
  same_length = ap length is ∙ sym (length-map table f)

  place_is : (k : ℕ) (d : X) (e : Y) → k < length used → get_or (map f table) k e ≡ f (get_or used k d)
  place_is k d e lt = ap (λ xs. get_or (map f xs) k e) (sym is) ∙ get_or-map f used k d e lt

  place_right : (p : Y → Bool) (k : ℕ) (d : X) → k < length used → every p (map f table) ≡ true → p (f (get_or used k d)) ≡ true
  place_right p k d lt all = every_at p f used k d (ap (λ xs. every p (map f xs)) is ∙ all) lt

module _ (b : Book) (whole : WellFormed (means b)) (k : ℕ) where
  pub rule_early : (used : List Rule) (is : used ≡ take b.rule_count b.rules) → k < length used → k < 32
  rule_early used is lt = omega (arith, whole.1.0, same_length (rule_means (code_of b)) _ used is)

  pub clause_early : (used : List Clause) (is : used ≡ take b.clause_count b.clauses) → k < length used → k < 32
  clause_early used is lt = omega (arith, whole.1.1, same_length (clause_means (code_of b)) _ used is)

  pub rule_at : (used : List Rule) (is : used ≡ take b.rule_count b.rules) (d : Rule) → k < length used → RightRule b (get_or used k d) × Numbered b k (get_or used k d)
  rule_at used is d lt =
      let f = rule_means (code_of b) in
      (record { few = whole.0.3; right = place_right f _ used is (right_rule (devices (means b)) (resources (means b))) k d lt whole.3.0 }, record { inside = omega (arith, same_length f _ used is); is = place_is f _ used is k d no_rule lt })

  pub clause_at : (used : List Clause) (is : used ≡ take b.clause_count b.clauses) (d : Clause) → k < length used → RightClause b (get_or used k d) × Counted b k (get_or used k d) × ((get_or used k d).device < 16)
  clause_at used is d lt =
      let f = clause_means (code_of b) in
      let fine = place_right f _ used is (right_clause (devices (means b)) (resources (means b))) k d lt whole.3.1 in
      let near = ltb-true _ _ (and_parts (ltb (get_or used k d).device (devices (means b))) _ fine).0 in
      (record { few = whole.0.3; right = fine }, record { inside = omega (arith, same_length f _ used is); is = place_is f _ used is k d no_clause lt }, omega (arith, near, whole.0.1))
