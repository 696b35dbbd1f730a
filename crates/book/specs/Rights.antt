-- What is right in a book of at most 32 resources: code, slots, actions, rules and clauses. Assumes nothing.
use Rattle.std.specs.Prelude.{◌≡◌, ℕ, ◌<◌, ◌≤◌, true, List, length, slice_index_or}
use Rattle.book.specs.declared.book.Book.{Book}
use Rattle.book.specs.declared.rule.Slot.{Slot}
use Rattle.book.specs.declared.rule.Action.{Action}
use Rattle.book.specs.declared.rule.Rule.{Rule}
use Rattle.book.specs.declared.rule.Clause.{Clause}
use Rattle.book.specs.Means.{code_of, action_means, rule_means, clause_means, means}
use Rattle.meaning.specs.Book.{devices, resources}
use Rattle.meaning.specs.Bytes.{part}
use Rattle.meaning.specs.Expression.{Scope, right_from, decoded}
use Rattle.meaning.specs.Flow.{no_rule, no_clause}
use Rattle.meaning.specs.WellFormed.{right_action, right_rule, right_clause}

-- the widest scope that an expression of a book of n resources can stand in
abbrev pub widest : ℕ → Scope
widest n = record { resources = n; receiver = true }

-- code that can be evaluated, and that reads only resources below 32
abbrev pub RightCode : List ℕ → Type 0
RightCode code = right_from (widest 32) 0 (decoded code) ≡ true

-- an assignment to a resource below 32
pub record RightSlot (b : Book) (x : Slot) : Type 0 where
  pub target : x.target < 32
  pub value : RightCode (part (code_of b) x.value.from x.value.size)

-- an action that may read a receiver is right, and so is one that may not
pub record RightAction (b : Book) (a : Action) : Type 0 where
  pub few : resources (means b) ≤ 32
  pub right : right_action (widest (resources (means b))) (action_means (code_of b) a) ≡ true

pub record RightRule (b : Book) (r : Rule) : Type 0 where
  pub few : resources (means b) ≤ 32
  pub right : right_rule (devices (means b)) (resources (means b)) (rule_means (code_of b) r) ≡ true

pub record RightClause (b : Book) (x : Clause) : Type 0 where
  pub few : resources (means b) ≤ 32
  pub right : right_clause (devices (means b)) (resources (means b)) (clause_means (code_of b) x) ≡ true

-- the rule of a number is r
pub record Numbered (b : Book) (i : ℕ) (r : Rule) : Type 0 where
  pub inside : i < length (means b).rules
  pub is : slice_index_or (means b).rules i no_rule ≡ rule_means (code_of b) r

-- the clause of a number is x
pub record Counted (b : Book) (i : ℕ) (x : Clause) : Type 0 where
  pub inside : i < length (means b).clauses
  pub is : slice_index_or (means b).clauses i no_clause ≡ clause_means (code_of b) x
