-- One instruction taken off the front of some code. Assumes nothing.
use Rattle.std.proofs.Common.{◌≡◌, ℕ, ◌+◌, ◌-◌, ◌<◌, cond, List, [], ◌∷◌, length, drop, Some, None, Option, sym, refl, ap, ◌∙◌, arith}
use Rattle.std.proofs.lemmas.List.{length-drop}
use Rattle.meaning.specs.declared.instruction.Instruction.{Instruction}
use Rattle.meaning.specs.Expression.{Scope, Front, front, encoded_instruction, decoded, decoded_after, wrong_after, may_stand, deepened}
use Rattle.meaning.proofs.Expressions.{front_takes, some_byte, decoded_front, wrong_front, wrong_end}
use Rattle.book.specs.Fronts.{past, taken}

-- the instruction i was taken off the front of bs, and tail is left
pub record Took (bs : List ℕ) (i : Instruction) (tail : List ℕ) : Type 0 where
  pub here : front bs ≡ Some (record { instruction = i; size = length (encoded_instruction i) })
  pub left : tail ≡ drop (length (encoded_instruction i)) bs
  pub long : length (encoded_instruction i) + length tail ≡ length bs

from_front : (bs : List ℕ) (i : Instruction) (tail : List ℕ) (o : Option Front) → front bs ≡ o → Some (i, tail) ≡ past bs o → Took bs i tail
from_front bs i tail None e told = absurd (let z : ◌≡◌ {A = ℕ} 0 1 = cc in omega arith)
from_front bs i tail (Some f) e told =
    let takes = front_takes bs f e in
    let same : f.instruction ≡ i = sym (ap (λ o. elim o [ None ↦ i | Some p ↦ p.0 ]) told) in
    let rest : tail ≡ drop f.size bs = ap (λ o. elim o [ None ↦ tail | Some p ↦ p.1 ]) told in
    let size : f.size ≡ length (encoded_instruction i) = takes.size_is ∙ ap (λ j. length (encoded_instruction j)) same in
    let back : tail ≡ drop (length (encoded_instruction i)) bs = rest ∙ ap (λ n. drop n bs) size in
    record {
      here = e ∙ (λ k. Some (record { instruction = same k; size = size k }));
      left = back;
      long = omega (arith, takes.within, size, ap length rest, length-drop f.size bs);
    }

pub took : (bs : List ℕ) (i : Instruction) (tail : List ℕ) → Some (i, tail) ≡ taken bs → Took bs i tail
took bs i tail told = from_front bs i tail (front bs) refl told

module _ {bs : List ℕ} {i : Instruction} {tail : List ℕ} (t : Took bs i tail) where
  -- code shrinks
  pub shorter : length tail < length bs
  shorter = omega (arith, t.long, some_byte i)

  pub spelt : decoded bs ≡ i ∷ decoded tail
  spelt = decoded_front bs _ t.here (some_byte i) ∙ ap (λ r. i ∷ decoded_after 0 r) (sym t.left)

  pub judged : (s : Scope) (at depth : ℕ) → wrong_after s 0 at depth bs ≡ cond (may_stand s depth i) (wrong_after s 0 (at + length (encoded_instruction i)) (deepened depth i) tail) (Some at)
  judged s at depth =
      wrong_front s at depth bs _ t.here (some_byte i) ∙ ap (λ r. cond (may_stand s depth i) (wrong_after s 0 (at + length (encoded_instruction i)) (deepened depth i) r) (Some at)) (sym t.left)

-- the instruction that is taken is the first that the code spells
pub spells_first : (bs : List ℕ) (i : Instruction) (tail : List ℕ) → Some (i, tail) ≡ taken bs → decoded bs ≡ i ∷ decoded tail
spells_first bs i tail told = spelt (took bs i tail told)

no_front : (o : Option Front) (bs : List ℕ) → None ≡ past bs o → o ≡ None
no_front None bs e = refl
no_front (Some f) bs e = absurd (let z : ◌≡◌ {A = ℕ} 0 1 = cc in omega arith)

-- nothing can be taken: the code is at its end, or wrong there
pub stuck : (s : Scope) (at depth : ℕ) (bs : List ℕ) → None ≡ taken bs → 0 < length bs → wrong_after s 0 at depth bs ≡ Some at
stuck s at depth [] e h = absurd (omega arith)
stuck s at depth (b ∷ bs) e h = wrong_end s at depth b bs (no_front (front (b ∷ bs)) (b ∷ bs) e)

-- and then it spells nothing
pub spells_nothing : (bs : List ℕ) → None ≡ taken bs → decoded bs ≡ []
unfolding decoded_after
spells_nothing [] none = refl
spells_nothing (b ∷ bs) none =
    ap (λ o. elim o [ None ↦ [] | Some f ↦ f.instruction ∷ decoded_after (f.size - 1) bs ]) (no_front (front (b ∷ bs)) (b ∷ bs) none)
