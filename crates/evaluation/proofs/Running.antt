-- Right code that is run from its front: each instruction finds its operands, and what is left gives of the stack what the whole gives of none. Assumes nothing.
use Rattle.std.proofs.Common.{◌≡◌, ℕ, ◌≤◌, true, List, [], ◌∷◌, length, get_or, ℤ, pos, sym, ap, ◌∙◌, arith}
use Rattle.std.proofs.lemmas.List.{length-drop}
use Rattle.std.proofs.lemmas.Bool.Decides.{nat_tests}
use Rattle.meaning.specs.declared.instruction.Instruction.{Instruction}
use Rattle.meaning.specs.Expression.{Expression, Scope, deepened, pops, right_from, pushed, stack_after, value}

-- a run of an expression, over the own cells and the receiver's, came to a stack, and what is left is right there
pub record Run (own receiver : ℕ → ℤ) (whole : Expression) (stack : List ℤ) (left : Expression) : Type 0 where
  pub same : stack_after own receiver stack left ≡ stack_after own receiver [] whole
  pub scope : Scope
  pub right : right_from scope (length stack) left ≡ true

-- the depth that the code counts is the stack's
pushed_long : (own receiver : ℕ → ℤ) (stack : List ℤ) (i : Instruction) → pops i ≤ length stack → length (pushed own receiver stack i) ≡ deepened (length stack) i
pushed_long own receiver stack i h = grind (arith, nat_tests, length-drop)

module _ {own receiver : ℕ → ℤ} {whole left tail : Expression} {stack : List ℤ} {i : Instruction} (spells : left ≡ i ∷ tail) (run : Run own receiver whole stack left) where
  here : right_from run.scope (length stack) (i ∷ tail) ≡ true
  here = sym (ap (right_from run.scope (length stack)) spells) ∙ run.right

  operands : pops i ≤ length stack
  unfolding right_from
  operands = grind (arith, nat_tests, here)

  pub few : deepened (length stack) i ≤ 8
  unfolding right_from
  few = grind (arith, nat_tests, here)

  pub goes_on : {next : List ℤ} → next ≡ pushed own receiver stack i → Run own receiver whole next tail
  unfolding stack_after right_from
  goes_on e =
      let spelt = ap (stack_after own receiver stack) spells in
      let long = pushed_long own receiver stack i operands in
      let onward : right_from run.scope (deepened (length stack) i) tail ≡ true = grind (arith, nat_tests, here) in
      record {
        same = cc;
        scope = run.scope;
        right = cc;
      }

pub ends : {own receiver : ℕ → ℤ} {whole left : Expression} {stack : List ℤ} {top : ℤ} → top ≡ get_or stack 0 (pos 0) → left ≡ [] → Run own receiver whole stack left → top ≡ value whole own receiver
unfolding stack_after
ends {own} {receiver} {whole} {left} {stack} e none run =
    let spelt = ap (stack_after own receiver stack) none in
    cc
