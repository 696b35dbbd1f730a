-- Bytes of code and the instructions that they spell. The first byte of an instruction tells how many it has, so code is read
-- one instruction after the other, each as it was written. Assumes nothing.
use Rattle.std.proofs.Common.{◌≡◌, ℕ, zero, suc, ◌+◌, ◌-◌, ◌<◌, ◌≤◌, Bool, true, false, cond, ◌&&◌, eqb, ltb, leb, ◌⊎◌, List, [], ◌∷◌, ◌++◌, map, length, get_or, take, drop, Some, None, Option, sym, refl, ap, ◌∙◌, subst, inl, inr, ⊎_elim, arith, w32, SFits, to_z, of_z}
use lib.Dec.{eqb-suc-zero}
use lib.Signed.{mag}
use Rattle.std.specs.List.{range_with_len}
use Rattle.std.proofs.lemmas.List.{length-append, length-drop, length-take-le, take-append-drop, drop_at, get_or-take, get_or-drop, get_or-map}
use Rattle.std.proofs.lemmas.List.FromFn.{get_or-range_with_len, fill_by_all}
use Rattle.std.proofs.lemmas.Bool.{ltb-true, leb-true, eqb-true, eqb-false, le-leb, and_parts, and_from, cond-true, cond-false, cond_both, false≢true}
use Rattle.std.proofs.lemmas.Int.{to_z-of_z, of_z-to_z}
use Rattle.meaning.specs.Bytes.{four_at, four, Bytes}
use Rattle.meaning.specs.declared.instruction.Operator.TheVariants.{Add, Subtract, Multiply, Divide, Less, AtMost, Equal, Unequal, And, Or, Not, Absolute}
use Rattle.meaning.specs.declared.instruction.Instruction.{Instruction}
use Rattle.meaning.specs.declared.instruction.Instruction.TheVariants.{Constant, Own, Receiver, Apply}
use Rattle.meaning.specs.Expression.{Expression, Scope, Front, front, sized, opcode, operators, operator, applied, may_stand, deepened, named, encoded_instruction, encoded_expression, decoded_after, decoded, right_from, wrong_after, wrong}
use Rattle.meaning.proofs.Numbers.{four_below, four_from, four_of}

-- to skip bytes is to begin after them
pub decoded_skip : (skip : ℕ) (bs : List ℕ) → decoded_after skip bs ≡ decoded_after 0 (drop skip bs)
unfolding decoded_after
decoded_skip zero bs = refl
decoded_skip (suc k) [] = refl
decoded_skip (suc k) (b ∷ bs) = decoded_skip k bs

pub wrong_skip : (s : Scope) (skip at depth : ℕ) (bs : List ℕ) → wrong_after s skip at depth bs ≡ wrong_after s 0 at depth (drop skip bs)
unfolding wrong_after
wrong_skip s zero at depth bs = refl
wrong_skip s (suc k) at depth [] = refl
wrong_skip s (suc k) at depth (b ∷ bs) = wrong_skip s k at depth bs

-- past the instruction at the front
drop_front : (b : ℕ) (bs : List ℕ) (n : ℕ) → 1 ≤ n → drop (n - 1) bs ≡ drop n (b ∷ bs)
drop_front b bs n h = let back : suc (n - 1) ≡ n = omega arith in ap (λ k. drop k (b ∷ bs)) back

-- what bytes spell, by what stands at their front
pub decoded_front : (bs : List ℕ) (f : Front) → front bs ≡ Some f → 1 ≤ f.size → decoded_after 0 bs ≡ f.instruction ∷ decoded_after 0 (drop f.size bs)
unfolding decoded_after
decoded_front [] f e h = absurd (let z : ◌≡◌ {A = ℕ} 0 1 = cc in omega arith)
decoded_front (b ∷ bs) f e h =
    ap (λ o. elim o [ None ↦ [] | Some g ↦ g.instruction ∷ decoded_after (g.size - 1) bs ]) e
    ∙ ap (λ r. f.instruction ∷ r) (decoded_skip (f.size - 1) bs ∙ ap (decoded_after 0) (drop_front b bs f.size h))

-- what is wrong from an instruction on, by what stands at the front; bs are the bytes past the first
abbrev judged : Scope → ℕ → ℕ → List ℕ → Option Front → Option ℕ
judged s at depth bs None = Some at
judged s at depth bs (Some f) =
    cond (may_stand s depth f.instruction) (wrong_after s (f.size - 1) (at + f.size) (deepened depth f.instruction) bs) (Some at)

pub wrong_front : (s : Scope) (at depth : ℕ) (bs : List ℕ) (f : Front) → front bs ≡ Some f → 1 ≤ f.size → wrong_after s 0 at depth bs ≡ cond (may_stand s depth f.instruction) (wrong_after s 0 (at + f.size) (deepened depth f.instruction) (drop f.size bs)) (Some at)
unfolding wrong_after
wrong_front s at depth [] f e h = absurd (let z : ◌≡◌ {A = ℕ} 0 1 = cc in omega arith)
wrong_front s at depth (b ∷ bs) f e h =
    let i = f.instruction in
    let rest = ap (wrong_after s 0 (at + f.size) (deepened depth i)) (drop_front b bs f.size h) in
    ap (judged s at depth bs) e ∙ ap (λ r. cond (may_stand s depth i) r (Some at)) (wrong_skip s (f.size - 1) (at + f.size) (deepened depth i) bs ∙ rest)

-- bytes that are no instruction
pub wrong_end : (s : Scope) (at depth b : ℕ) (bs : List ℕ) → front (b ∷ bs) ≡ None → wrong_after s 0 at depth (b ∷ bs) ≡ Some at
unfolding wrong_after
wrong_end s at depth b bs e = ap (judged s at depth bs) e

-- where there is a byte, it tells
opened : {A : Type 0} (b : ℕ) (bs : List ℕ) (x y : A) → cond (eqb (length (b ∷ bs)) 0) x y ≡ y
opened b bs x y = cond-false _ x y (eqb-suc-zero (length bs))

enough : (n : ℕ) (bs : List ℕ) (i : Instruction) → n ≤ length bs → sized n bs i ≡ Some (record { instruction = i; size = n })
enough n bs i h = cond-true _ _ None (le-leb n (length bs) h)

-- an instruction stands at the front of its bytes
front_of : (s : Scope) (i : Instruction) (rest : List ℕ) → named s i ≡ true → front (encoded_instruction i ++ rest) ≡ Some (record { instruction = i; size = length (encoded_instruction i) })
front_of s (Constant v) rest h =
    let fits : SFits w32 v = record { sfits = ltb-true (mag v) 2147483648 h } in
    let n = of_z w32 v in
    let bs = encoded_instruction (Constant v) ++ rest in
    opened 0 (four n ++ rest) _ _ ∙ enough 5 bs _ (omega arith) ∙ ap (λ z. Some (record { instruction = Constant z; size = 5 })) (ap (to_z w32) (four_from n) ∙ to_z-of_z w32 v fits)
front_of s (Own r) rest h = opened 1 (r ∷ rest) _ _ ∙ enough 2 (1 ∷ r ∷ rest) _ (omega arith)
front_of s (Receiver r) rest h = opened 2 (r ∷ rest) _ _ ∙ enough 2 (2 ∷ r ∷ rest) _ (omega arith)
front_of s (Apply Add) rest h = opened (opcode Add) rest _ _
front_of s (Apply Subtract) rest h = opened (opcode Subtract) rest _ _
front_of s (Apply Multiply) rest h = opened (opcode Multiply) rest _ _
front_of s (Apply Divide) rest h = opened (opcode Divide) rest _ _
front_of s (Apply Less) rest h = opened (opcode Less) rest _ _
front_of s (Apply AtMost) rest h = opened (opcode AtMost) rest _ _
front_of s (Apply Equal) rest h = opened (opcode Equal) rest _ _
front_of s (Apply Unequal) rest h = opened (opcode Unequal) rest _ _
front_of s (Apply And) rest h = opened (opcode And) rest _ _
front_of s (Apply Or) rest h = opened (opcode Or) rest _ _
front_of s (Apply Not) rest h = opened (opcode Not) rest _ _
front_of s (Apply Absolute) rest h = opened (opcode Absolute) rest _ _

pub some_byte : (i : Instruction) → 1 ≤ length (encoded_instruction i)
some_byte (Constant v) = omega arith
some_byte (Own r) = omega arith
some_byte (Receiver r) = omega arith
some_byte (Apply o) = omega arith

encoded_right_from : (s : Scope) (at depth : ℕ) (e : Expression) → right_from s depth e ≡ true → (wrong_after s 0 at depth (encoded_expression e) ≡ None) × (decoded (encoded_expression e) ≡ e)
unfolding right_from encoded_expression wrong_after decoded_after
encoded_right_from s at depth [] h = (cond-true (eqb depth 1) None (Some at) h, refl)
encoded_right_from s at depth (i ∷ e) h =
    let (stands, more) = and_parts (may_stand s depth i) (right_from s (deepened depth i) e) h in
    let here = front_of s i (encoded_expression e) (and_parts (named s i) _ stands).0 in
    let n = length (encoded_instruction i) in
    let f : Front = record { instruction = i; size = n } in
    let bs = encoded_instruction i ++ encoded_expression e in
    let after : drop n bs ≡ encoded_expression e = drop_at (encoded_instruction i) (encoded_expression e) n refl in
    let next = encoded_right_from s (at + n) (deepened depth i) e more in
    let clean = ap (wrong_after s 0 (at + n) (deepened depth i)) after ∙ next.0 in
    let spelt = ap decoded after ∙ next.1 in
    (wrong_front s at depth bs f here (some_byte i) ∙ cond-true _ _ (Some at) stands ∙ clean, decoded_front bs f here (some_byte i) ∙ ap (λ r. i ∷ r) spelt)

-- some bytes begin with those of an instruction
pub record Begins (bs : List ℕ) (f : Front) : Type 0 where
  pub some : 1 ≤ f.size
  pub spells : encoded_instruction f.instruction ++ drop f.size bs ≡ bs

-- what the front of some bytes tells of them
abbrev Told : List ℕ → Option Front → Type 0
Told bs None = Unit {0}
Told bs (Some f) = Begins bs f

-- the first n bytes
abbrev first : ℕ → List ℕ → List ℕ
first n bs = map (λ k. get_or bs k 0) (range_with_len 0 n)

first-drop : (n : ℕ) (bs : List ℕ) → n ≤ length bs → first n bs ++ drop n bs ≡ bs
first-drop n bs h =
    let same = fill_by_all (λ k. get_or bs k 0) (take n bs) n 0 (length-take-le n bs h) (λ k lt. get_or-take n bs k 0 lt) in
    ap (λ l. l ++ drop n bs) (sym same) ∙ take-append-drop n bs

begins : (n : ℕ) (bs : List ℕ) (i : Instruction) → 1 ≤ n → n ≤ length bs → encoded_instruction i ≡ first n bs → Begins bs (record { instruction = i; size = n })
begins n bs i some within e =
    record { some = some; spells = ap (λ l. l ++ drop n bs) e ∙ first-drop n bs within }

sized_told : (n : ℕ) (bs : List ℕ) (i : Instruction) → 1 ≤ n → encoded_instruction i ≡ first n bs → Told bs (sized n bs i)
sized_told n bs i some e =
    cond_both (leb n (length bs)) _ None (Told bs) (λ h. begins n bs i some (leb-true n (length bs) h) e) (λ _. tt)

-- the operators stand in the order of their opcodes
opcode_at : (op : ℕ) → 3 ≤ op → op < 15 → opcode (get_or operators (op - 3) Add) ≡ op
opcode_at op low high =
    let k : op - 3 < 12 = omega arith in
    let e : 3 + (op - 3) ≡ op = omega arith in
    sym (get_or-map opcode operators (op - 3) Add 0 k) ∙ get_or-range_with_len 3 12 (op - 3) 0 k ∙ e

applied_told : (bs : List ℕ) → 1 ≤ length bs → Told bs (applied (operator (get_or bs 0 0)))
applied_told bs some =
    let op = get_or bs 0 0 in
    cond_both (leb 3 op && ltb op 15) _ None (λ o. Told bs (applied o))
    (λ h. let (low, high) = and_parts (leb 3 op) (ltb op 15) h in
    begins 1 bs _ (omega arith) some (ap (λ n. n ∷ []) (opcode_at op (leb-true 3 op low) (ltb-true op 15 high))))
    (λ _. tt)

-- an opcode and one byte after it
pair_first : (bs : List ℕ) (op : ℕ) → eqb (get_or bs 0 0) op ≡ true → op ∷ get_or bs 1 0 ∷ [] ≡ first 2 bs
pair_first bs op h = ap (λ n. n ∷ get_or bs 1 0 ∷ []) (sym (eqb-true (get_or bs 0 0) op h))

-- an opcode and the four bytes of a constant
constant_first : (bs : List ℕ) → Bytes bs → eqb (get_or bs 0 0) 0 ≡ true → encoded_instruction (Constant (to_z w32 (four_at bs 1))) ≡ first 5 bs
constant_first bs fit h =
    let bits = ap four (of_z-to_z w32 (four_at bs 1) (four_below bs 1 fit)) ∙ four_of bs 1 fit in
    λ i. sym (eqb-true (get_or bs 0 0) 0 h) i ∷ bits i

front_told : (bs : List ℕ) → Bytes bs → Told bs (front bs)
front_told bs fit =
    let op = get_or bs 0 0 in
    let P = Told bs in
    cond_both (eqb (length bs) 0) None _ P (λ _. tt) (λ some.
    cond_both (eqb op 0) _ _ P (λ h. sized_told 5 bs _ (omega arith) (constant_first bs fit h)) (λ _.
    cond_both (eqb op 1) _ _ P (λ h. sized_told 2 bs _ (omega arith) (pair_first bs 1 h)) (λ _.
    cond_both (eqb op 2) _ _ P (λ h. sized_told 2 bs _ (omega arith) (pair_first bs 2 h)) (λ _.
    applied_told bs (omega (arith, eqb-false (length bs) 0 some))))))

-- the instruction at the front has its bytes there
pub front_is : (bs : List ℕ) (f : Front) → Bytes bs → front bs ≡ Some f → Begins bs f
front_is bs f fit e = subst (Told bs) e (front_told bs fit)

-- the bytes that an instruction takes are there, as many as its encoding has
pub record Takes (bs : List ℕ) (f : Front) : Type 0 where
  pub size_is : f.size ≡ length (encoded_instruction f.instruction)
  pub within : f.size ≤ length bs

abbrev Taking : List ℕ → Option Front → Type 0
Taking bs None = Unit {0}
Taking bs (Some f) = Takes bs f

sized_takes : (n : ℕ) (bs : List ℕ) (i : Instruction) → n ≡ length (encoded_instruction i) → Taking bs (sized n bs i)
sized_takes n bs i e =
    cond_both (leb n (length bs)) _ None (Taking bs) (λ h. record { size_is = e; within = leb-true n (length bs) h }) (λ _. tt)

front_taking : (bs : List ℕ) → Taking bs (front bs)
front_taking bs =
    let op = get_or bs 0 0 in
    let P = Taking bs in
    cond_both (eqb (length bs) 0) None _ P (λ _. tt) (λ some.
    cond_both (eqb op 0) _ _ P (λ _. sized_takes 5 bs _ refl) (λ _.
    cond_both (eqb op 1) _ _ P (λ _. sized_takes 2 bs _ refl) (λ _.
    cond_both (eqb op 2) _ _ P (λ _. sized_takes 2 bs _ refl) (λ _.
    cond_both (leb 3 op && ltb op 15) _ None (λ o. P (applied o)) (λ _. record { size_is = refl; within = omega (arith, eqb-false (length bs) 0 some) }) (λ _. tt)))))

pub front_takes : (bs : List ℕ) (f : Front) → front bs ≡ Some f → Takes bs f
front_takes bs f e = subst (Taking bs) e (front_taking bs)

-- an answer that is none came by the first way
no_fault : (c : Bool) (r : Option ℕ) (at : ℕ) → cond c r (Some at) ≡ None → (c ≡ true) × (r ≡ None)
no_fault true r at e = (refl, e)
no_fault false r at e = absurd (let z : ◌≡◌ {A = ℕ} 0 1 = cc in omega arith)

cases_front : (o : Option Front) → (o ≡ None) ⊎ ((f : Front) × (o ≡ Some f))
cases_front None = inl refl
cases_front (Some f) = inr (f, refl)

-- n is at least the count of the bytes
decoded_right_from : (n : ℕ) (s : Scope) (at depth : ℕ) (bs : List ℕ) → length bs ≤ n → Bytes bs → wrong_after s 0 at depth bs ≡ None → (right_from s depth (decoded bs) ≡ true) × (encoded_expression (decoded bs) ≡ bs)
unfolding right_from encoded_expression wrong_after decoded_after
decoded_right_from n s at depth [] long fit e = ((no_fault (eqb depth 1) None at e).0, refl)
decoded_right_from zero s at depth (b ∷ bs) long fit e = absurd (omega arith)
decoded_right_from (suc n) s at depth (b ∷ bs) long fit e =
    ⊎_elim
    (λ none. absurd (let w = wrong_end s at depth b bs none in let z : ◌≡◌ {A = ℕ} 0 1 = cc in omega arith))
    (λ (f, here).
    let begun = front_is (b ∷ bs) f fit here in
    let i = f.instruction in
    let rest = drop f.size (b ∷ bs) in
    let (stands, more) = no_fault (may_stand s depth i) _ at (sym (wrong_front s at depth (b ∷ bs) f here begun.some) ∙ e) in
    let shorter : length rest ≤ n = omega (arith, begun.some, length-drop f.size (b ∷ bs)) in
    let fits : Bytes rest = λ k. rw (get_or-drop f.size (b ∷ bs) k 0) (fit (f.size + k)) in
    let next = decoded_right_from n s (at + f.size) (deepened depth i) rest shorter fits more in
    let spelt = decoded_front (b ∷ bs) f here begun.some in
    (ap (right_from s depth) spelt ∙ and_from (may_stand s depth i) _ stands next.0, ap encoded_expression spelt ∙ ap (λ r. encoded_instruction i ++ r) next.1 ∙ begun.spells))
    (cases_front (front (b ∷ bs)))

-- bytes in which nothing is wrong are those of a right expression, the one that they spell
pub decoded_right : (s : Scope) (bs : List ℕ) → Bytes bs → wrong s bs ≡ None → (right_from s 0 (decoded bs) ≡ true) × (encoded_expression (decoded bs) ≡ bs)
decoded_right s bs fit e = decoded_right_from (length bs) s 0 0 bs (omega arith) fit e

-- nothing is wrong in the bytes of a right expression, and they spell it
pub encoded_right : (s : Scope) (e : Expression) → right_from s 0 e ≡ true → (wrong s (encoded_expression e) ≡ None) × (decoded (encoded_expression e) ≡ e)
encoded_right s e h = encoded_right_from s 0 0 e h

-- a right expression has a byte
pub some_code : (s : Scope) (e : Expression) → right_from s 0 e ≡ true → 1 ≤ length (encoded_expression e)
unfolding right_from encoded_expression
some_code s [] h = absurd (false≢true h)
some_code s (i ∷ e) h = omega (arith, some_byte i, length-append (encoded_instruction i) (encoded_expression e))
