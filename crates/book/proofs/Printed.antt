-- The opcode table's rule, proved once over the whole table. Assumes nothing.
use Rattle.std.proofs.Common.{◌≡◌, ℕ, zero, suc, ◌+◌, ◌<◌, Bool, true, false, cond, ◌&&◌, eqb, ltb, leb, List, [], ◌∷◌, length, get_or, sym, refl, ap, ◌∙◌, subst, add-zero, add-suc, suc-add, zero-add, arith}
use Rattle.std.proofs.lemmas.Bool.Decides.{nat_tests}
use Rattle.std.proofs.lemmas.Bool.{and_parts, eqb-true, ltb-true, leb-true, le-ltb, cond-false}
use Rattle.meaning.specs.declared.instruction.Operator.{Operator}
use Rattle.meaning.specs.declared.instruction.Operator.TheVariants.{Add, Subtract, Multiply, Divide, Less, AtMost, Equal, Unequal, And, Or, Not, Absolute}
use Rattle.meaning.specs.declared.instruction.Instruction.{Instruction}
use Rattle.meaning.specs.declared.instruction.Instruction.TheVariants.{Constant, Own, Receiver, Apply}
use Rattle.meaning.specs.Expression.{encoded_instruction, pops, opcode}
use Rattle.book.specs.declared.opcode.Row.{Row}

abbrev line : ℕ → ℕ → ℕ → Row
line op n p = record { opcode = op; length = n; pops = p }

-- the lines as the code has them
abbrev pub table : List Row
table =
    line 0 5 0 ∷ line 1 2 0 ∷ line 2 2 0 ∷ line 3 1 2 ∷ line 4 1 2 ∷ line 5 1 2 ∷ line 6 1 2 ∷ line 7 1 2 ∷ line 8 1 2 ∷ line 9 1 2 ∷ line 10 1 2 ∷ line 11 1 2 ∷ line 12 1 2 ∷ line 13 1 1 ∷ line 14 1 1 ∷ []

-- the line of opcode k, by its range: a constant, a read, two operands, one
abbrev printed : ℕ → Row → Bool
printed k r = eqb r.opcode k && (eqb r.length (cond (eqb k 0) 5 (cond (ltb k 3) 2 1)) && eqb r.pops (cond (ltb k 3) 0 (cond (ltb k 13) 2 1)))

abbrev all_printed : ℕ → List Row → Bool
all_printed k [] = true
all_printed k (r ∷ rs) = printed k r && all_printed (suc k) rs

from : (rs : List Row) (i k : ℕ) (d : Row) → all_printed i rs ≡ true → k < length rs → printed (i + k) (get_or rs k d) ≡ true
from [] i k d t h = absurd (omega arith)
from (r ∷ rs) i zero d t h = ap (λ j. printed j r) (add-zero i) ∙ (and_parts _ _ t).0
from (r ∷ rs) i (suc k) d t h =
    ap (λ j. printed j (get_or rs k d)) (add-suc i k ∙ sym (suc-add i k)) ∙ from rs (suc i) k d (and_parts _ _ t).1 (omega arith)

at : (k : ℕ) (d : Row) → k < 15 → printed k (get_or table k d) ≡ true
at k d h = subst (λ j. printed j (get_or table k d) ≡ true) (zero-add k) (from table 0 k d refl h)

-- what a line says of an instruction
abbrev pub Rule : Instruction → Row → Type 0
Rule i r = (r.length ≡ length (encoded_instruction i)) × (r.pops ≡ pops i)

-- opcodes of operators come after those of the reads
operator_range : (o : Operator) → (leb 3 (opcode o) && ltb (opcode o) 15) ≡ true
operator_range Add = refl
operator_range Subtract = refl
operator_range Multiply = refl
operator_range Divide = refl
operator_range Less = refl
operator_range AtMost = refl
operator_range Equal = refl
operator_range Unequal = refl
operator_range And = refl
operator_range Or = refl
operator_range Not = refl
operator_range Absolute = refl

applies : (o : Operator) (d : Row) → Rule (Apply o) (get_or table (opcode o) d)
applies o d =
    let in_range = and_parts _ _ (operator_range o) in
    let past = leb-true 3 (opcode o) in_range.0 in
    let no_constant : eqb (opcode o) 0 ≡ false = grind (arith, nat_tests) in
    let told = and_parts _ _ (at (opcode o) d (ltb-true _ 15 in_range.1)) in
    let parts = and_parts _ _ told.1 in
    (eqb-true _ _ parts.0 ∙ cond-false _ _ _ no_constant ∙ cond-false _ _ _ (le-ltb _ 3 past), eqb-true _ _ parts.1 ∙ cond-false _ _ _ (le-ltb _ 3 past))

pub rule : (i : Instruction) → Rule i (get_or table (get_or (encoded_instruction i) 0 0) (line 0 0 0))
rule (Constant v) = (refl, refl)
rule (Own r) = (refl, refl)
rule (Receiver r) = (refl, refl)
rule (Apply o) = applies o (line 0 0 0)
