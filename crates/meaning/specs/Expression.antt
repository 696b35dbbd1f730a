-- Expressions: instructions in postfix order, their bytes, their value, what they read, and where their bytes are wrong. Assumes nothing.
use Rattle.std.specs.Prelude.{ℕ, zero, suc, ◌+◌, ◌-◌, Bool, true, cond, not, ◌&&◌, ◌||◌, List, [], ◌∷◌, ◌++◌, length, drop, ℤ, pos, ◌+ℤ◌, ◌-ℤ◌, ◌*ℤ◌, Some, None, Option, ◌==◌, int_div, int_le, int_lt, nat_le, nat_lt, slice_index, slice_index_or, unsigned_abs}
use Rattle.std.specs.Int.Signed.{mag}
use Rattle.std.proofs.Common.{to_z, of_z}
use Rattle.std.specs.Int.{saturate_to_bits, w32}
use Rattle.meaning.specs.declared.instruction.Operator.{Operator}
use Rattle.meaning.specs.declared.instruction.Operator.TheVariants.{Add, Subtract, Multiply, Divide, Less, AtMost, Equal, Unequal, And, Or, Not, Absolute}
use Rattle.meaning.specs.declared.instruction.Instruction.{Instruction}
use Rattle.meaning.specs.declared.instruction.Instruction.TheVariants.{Constant, Own, Receiver, Apply}
use Rattle.meaning.specs.Bytes.{four_at, four}
use Rattle.meaning.specs.Sets.{with_member}

abbrev pub Expression : Type 0
Expression = List Instruction

-- the opcode of an operator
abbrev pub opcode : Operator → ℕ
opcode Add = 3
opcode Subtract = 4
opcode Multiply = 5
opcode Divide = 6
opcode Less = 7
opcode AtMost = 8
opcode Equal = 9
opcode Unequal = 10
opcode And = 11
opcode Or = 12
opcode Not = 13
opcode Absolute = 14

-- the operators in the order of their opcodes, which begin at 3
abbrev pub operators : List Operator
operators = Add ∷ Subtract ∷ Multiply ∷ Divide ∷ Less ∷ AtMost ∷ Equal ∷ Unequal ∷ And ∷ Or ∷ Not ∷ Absolute ∷ []

-- how many operands an instruction pops
abbrev pub pops : Instruction → ℕ
pops (Constant v) = 0
pops (Own r) = 0
pops (Receiver r) = 0
pops (Apply o) = cond (nat_lt (opcode o) 13) 2 1

-- an instruction's bytes
abbrev pub encoded_instruction : Instruction → List ℕ
encoded_instruction (Constant v) = 0 ∷ four (of_z w32 v)
encoded_instruction (Own r) = 1 ∷ r ∷ []
encoded_instruction (Receiver r) = 2 ∷ r ∷ []
encoded_instruction (Apply o) = opcode o ∷ []

unfoldable pub encoded_expression : Expression → List ℕ
encoded_expression [] = []
encoded_expression (i ∷ e) = encoded_instruction i ++ encoded_expression e

-- the instruction at the front of some bytes, and how many of them it takes
pub record Front : Type 0 where
  pub instruction : Instruction
  pub size : ℕ

-- an instruction that takes n bytes, where there are as many
abbrev pub sized : ℕ → List ℕ → Instruction → Option Front
sized n bs i = cond (nat_le n (length bs)) (Some (record { instruction = i; size = n })) None

-- the operator of an opcode
abbrev pub operator : ℕ → Option Operator
operator op = cond (nat_le 3 op && nat_lt op 15) (Some (slice_index_or operators (op - 3) Add)) None

abbrev pub applied : Option Operator → Option Front
applied (Some o) = Some (record { instruction = Apply o; size = 1 })
applied None = None

-- by the first byte and its operand bytes
abbrev pub front : List ℕ → Option Front
front bs =
    cond (length bs == 0) None
    (cond (slice_index bs 0 == 0) (sized 5 bs (Constant (to_z w32 (four_at bs 1))))
    (cond (slice_index bs 0 == 1) (sized 2 bs (Own (slice_index bs 1)))
    (cond (slice_index bs 0 == 2) (sized 2 bs (Receiver (slice_index bs 1)))
    (applied (operator (slice_index bs 0))))))

-- the instructions of some bytes, after as many that are skipped; bytes that are no instruction end them
unfoldable pub decoded_after : ℕ → List ℕ → Expression
decoded_after skip [] = []
decoded_after (suc k) (b ∷ bs) = decoded_after k bs
decoded_after zero (b ∷ bs) =
    elim (front (b ∷ bs)) [ None ↦ [] | Some f ↦ f.instruction ∷ decoded_after (f.size - 1) bs ]

abbrev pub decoded : List ℕ → Expression
decoded bs = decoded_after 0 bs

-- where an expression stands: how many resources there are, and whether it may read the receiver
pub record Scope : Type 0 where
  pub resources : ℕ
  pub receiver : Bool

-- what an instruction names is there
abbrev pub named : Scope → Instruction → Bool
named s (Constant v) = nat_lt (mag v) 2147483648
named s (Own r) = nat_lt r s.resources
named s (Receiver r) = nat_lt r s.resources && s.receiver
named s (Apply o) = true

-- the depth of the stack after an instruction
abbrev pub deepened : ℕ → Instruction → ℕ
deepened depth i = depth + 1 - pops i

-- an instruction may stand at a depth: its operands are there, and the depth stays at most 8
abbrev pub may_stand : Scope → ℕ → Instruction → Bool
may_stand s depth i = named s i && (nat_le (pops i) depth && nat_le (deepened depth i) 8)

-- each instruction may stand where it does, and the depth ends at 1
unfoldable pub right_from : Scope → ℕ → Expression → Bool
right_from s depth [] = depth == 1
right_from s depth (i ∷ e) = may_stand s depth i && right_from s (deepened depth i) e

-- an expression that may stand in a book: right, and at most 64 bytes
abbrev pub right : Scope → Expression → Bool
right s e = right_from s 0 e && nat_le (length (encoded_expression e)) 64

-- where some bytes are wrong: the offset of the first instruction that may not stand, or their end if the depth is not 1 there
unfoldable pub wrong_after : Scope → ℕ → ℕ → ℕ → List ℕ → Option ℕ
wrong_after s skip at depth [] = cond (depth == 1) None (Some at)
wrong_after s (suc k) at depth (b ∷ bs) = wrong_after s k at depth bs
wrong_after s zero at depth (b ∷ bs) =
    elim (front (b ∷ bs)) [
      | None ↦ Some at
      | Some f ↦ cond (may_stand s depth f.instruction) (wrong_after s (f.size - 1) (at + f.size) (deepened depth f.instruction) bs) (Some at)
    ]

abbrev pub wrong : Scope → List ℕ → Option ℕ
wrong s bs = wrong_after s 0 0 0 bs

-- the own cells that an instruction reads, beside the members of m
abbrev pub own_read : ℕ → Instruction → ℕ
own_read m (Constant v) = m
own_read m (Own r) = with_member m r
own_read m (Receiver r) = m
own_read m (Apply o) = m

-- the receiver's cells that an instruction reads, beside the members of m
abbrev pub asked : ℕ → Instruction → ℕ
asked m (Constant v) = m
asked m (Own r) = m
asked m (Receiver r) = with_member m r
asked m (Apply o) = m

-- the own cells that an expression reads, beside the members of m
unfoldable pub reads : ℕ → Expression → ℕ
reads m [] = m
reads m (i ∷ e) = reads (own_read m i) e

-- the receiver's cells that an expression reads, beside the members of m
unfoldable pub asks : ℕ → Expression → ℕ
asks m [] = m
asks m (i ∷ e) = asks (asked m i) e

-- results are clamped to 32 bits
abbrev pub clamped : ℤ → ℤ
clamped z = saturate_to_bits 31 z

-- the fraction is dropped, and dividing by 0 gives 0
abbrev pub quotient : ℤ → ℤ → ℤ
quotient a b = cond (unsigned_abs b == 0) (pos 0) (int_div a b)

-- each number but 0 counts as true
abbrev pub truth : ℤ → Bool
truth z = not (unsigned_abs z == 0)

abbrev pub from_truth : Bool → ℤ
from_truth t = cond t (pos 1) (pos 0)

abbrev pub same : ℤ → ℤ → Bool
same a b = int_le a b && int_le b a

-- what an operator gives of its operands; a is the one that was pushed first, and of one operand b is it
unfoldable pub operated : Operator → ℤ → ℤ → ℤ
operated Add a b = clamped (a +ℤ b)
operated Subtract a b = clamped (a -ℤ b)
operated Multiply a b = clamped (a *ℤ b)
operated Divide a b = clamped (quotient a b)
operated Less a b = from_truth (int_lt a b)
operated AtMost a b = from_truth (int_le a b)
operated Equal a b = from_truth (same a b)
operated Unequal a b = from_truth (not (same a b))
operated And a b = from_truth (truth a && truth b)
operated Or a b = from_truth (truth a || truth b)
operated Not a b = from_truth (not (truth b))
operated Absolute a b = clamped (pos (unsigned_abs b))

-- the stack after an instruction, its top first; a missing operand is 0
abbrev pub pushed : (ℕ → ℤ) → (ℕ → ℤ) → List ℤ → Instruction → List ℤ
pushed own receiver stack (Constant v) = v ∷ stack
pushed own receiver stack (Own r) = own r ∷ stack
pushed own receiver stack (Receiver r) = receiver r ∷ stack
pushed own receiver stack (Apply o) = operated o (slice_index_or stack 1 (pos 0)) (slice_index_or stack 0 (pos 0)) ∷ drop (pops (Apply o)) stack

unfoldable pub stack_after : (ℕ → ℤ) → (ℕ → ℤ) → List ℤ → Expression → List ℤ
stack_after own receiver stack [] = stack
stack_after own receiver stack (i ∷ e) = stack_after own receiver (pushed own receiver stack i) e

-- the value of an expression, over the own cells and the receiver's
abbrev pub value : Expression → (ℕ → ℤ) → (ℕ → ℤ) → ℤ
value e own receiver = slice_index_or (stack_after own receiver [] e) 0 (pos 0)
