-- Expressions and slots that stand where their pairs say pass their checks and are read back: a pair is read as the numbers that
-- were written, so the code that it names is the code that was written. Assumes nothing.
use Rattle.std.proofs.Common.{◌≡◌, ℕ, zero, suc, ◌+◌, ◌-◌, ◌*◌, ◌<◌, ◌≤◌, Bool, true, false, not, ◌&&◌, eqb, ltb, leb, List, [], ◌∷◌, ◌++◌, length, Ok, sym, refl, ap, ◌∙◌, subst, add-zero, add-one, arith}
use Rattle.std.proofs.lemmas.List.{length-append}
use Rattle.std.proofs.lemmas.Bool.{eqb-false, ne_eqb, eq-eqb, le-leb, leb-true, lt-ltb, le-ltb, and_parts, and_from, or_from, cond-true, cond-false, not-true, not_from_false}
use Rattle.meaning.specs.Bytes.{byte_at, two_at, two, part}
use Rattle.meaning.specs.Checks.{through}
use Rattle.meaning.specs.Expression.{Expression, Scope, encoded_expression, decoded, right_from, wrong, right as right_expression}
use Rattle.meaning.specs.Book.{Slot}
use Rattle.meaning.specs.File.{pair, size_of, slots_code, slots_bytes}
use Rattle.meaning.specs.WellFormed.{every, unset, distinct, right_action}
use Rattle.meaning.specs.Layout.{Layout, code_from, room}
use Rattle.meaning.specs.Parsed.{code_at, expression_at, slot_at, slots_at}
use Rattle.meaning.specs.Reading.{pair_checked, repeated, slot_checked, action_checked, expression_fault, expression_checked, values_checked}
use Rattle.meaning.proofs.Stands.{Stands, left, right, head, is_part, two_read, four_read}
use Rattle.meaning.proofs.Expressions.{encoded_right, some_code}
use Rattle.meaning.proofs.Placed.{granted, bound, Each, Held, each_both, each_every, each_passes, each_read, each_held}

-- the pair at p names the expression e, whose code begins at the offset `at`
abbrev pub Named : List ℕ → Layout → ℕ → ℕ → Expression → Type 0
Named bs l p at e = Held bs l p at (pair at (size_of e)) (encoded_expression e)

abbrev slot_code : Slot → List ℕ
slot_code s = encoded_expression s.value

-- the slot k of an action at p is s, whose code begins at the offset `at`
abbrev SlotHeld : List ℕ → Layout → ℕ → ℕ → ℕ → Slot → Type 0
SlotHeld bs l p k at s = Held bs l (p + 5 * k) at (s.target ∷ pair at (size_of s.value)) (slot_code s)

-- no slot of the k before sets the target of s
abbrev fresh : List ℕ → ℕ → ℕ → Slot → Bool
fresh bs p k s = not (repeated bs p s.target k)

module _ (bs : List ℕ) (l : Layout) (long : code_from l + room l ≤ length bs) where
  module _ (p at : ℕ) (e : Expression) (held : Named bs l p at e) where
    offset_read : two_at bs p ≡ at
    offset_read = two_read bs p at (left bs p (two at) (two (size_of e)) held.bytes_stand)

    size_read : two_at bs (p + 2) ≡ size_of e
    size_read = two_read bs (p + 2) (size_of e) (right bs p (p + 2) (two at) (two (size_of e)) refl held.bytes_stand)

    code_read : code_at bs (code_from l) p ≡ encoded_expression e
    code_read =
        (λ i. part bs (code_from l + offset_read i) (size_read i)) ∙ is_part bs (code_from l + at) (encoded_expression e) (omega (arith, held.fits)) held.code_stands

    pub pair_passes : pair_checked bs l p at ≡ Ok (at + size_of e)
    pair_passes =
        let inside : at + two_at bs (p + 2) ≤ room l = subst (λ n. at + n ≤ room l) (sym size_read) held.fits in
        granted _ _ _ (and_from _ _ (eq-eqb _ _ offset_read) (le-leb _ _ inside)) ∙ ap (λ n. Ok (at + n)) size_read

    pub expression_read : (s : Scope) → right_expression s e ≡ true → expression_at bs (code_from l) p ≡ e
    expression_read s good = ap decoded code_read ∙ (encoded_right s e (and_parts _ _ good).0).1

    pub expression_passes : (receiver : Bool) → right_expression (record { resources = l.resources; receiver = receiver }) e ≡ true → expression_checked bs l receiver p ≡ Ok tt
    unfolding expression_checked
    expression_passes receiver good =
        let s : Scope = record { resources = l.resources; receiver = receiver } in
        let parts = and_parts (right_from s 0 e) (leb (size_of e) 64) good in
        let bounds : (leb 1 (size_of e) && leb (size_of e) 64) ≡ true = and_from _ _ (le-leb _ _ (some_code s e parts.0)) parts.1 in
        granted _ _ _ (subst (λ n. (leb 1 n && leb n 64) ≡ true) (sym size_read) bounds) ∙ ap (λ c. expression_fault (code_from l + two_at bs p) (wrong s c)) code_read ∙ ap (expression_fault (code_from l + two_at bs p)) (encoded_right s e parts.0).0

  -- an action at p
  module _ (p : ℕ) where
    slots_held : (n at : ℕ) (ss : List Slot) → length ss ≤ n → Held bs l p at (slots_bytes n at ss) (slots_code ss) → Each slot_code (SlotHeld bs l p) 0 at ss
    unfolding slots_bytes
    slots_held n at ss few h =
        let unused = n - length ss in
        let all : n ≡ length ss + unused = omega arith in
        let start : p ≡ p + 5 * 0 = omega arith in
        let whole : Held bs l (p + 5 * 0) at (slots_bytes (length ss + unused) at ss) (slots_code ss) = subst (λ q. Held bs l q at (slots_bytes (length ss + unused) at ss) (slots_code ss)) start (subst (λ m. Held bs l p at (slots_bytes m at ss) (slots_code ss)) all h) in
        let row : (a : ℕ) (s : Slot) (xs : List Slot) → slots_bytes (length (s ∷ xs) + unused) a (s ∷ xs) ≡ s.target ∷ (pair a (size_of s.value) ++ slots_bytes (length xs + unused) (a + size_of s.value) xs) = λ a s xs. let one_more : length (s ∷ xs) + unused ≡ suc (length xs + unused) = omega arith in ap (λ m. slots_bytes m a (s ∷ xs)) one_more in
        each_held slot_code (λ a s. s.target ∷ pair a (size_of s.value)) (λ a xs. slots_bytes (length xs + unused) a xs) (λ k. p + 5 * k) bs l row (λ k a s. omega arith) 0 at ss whole

    module _ (k at : ℕ) (s : Slot) (held : SlotHeld bs l p k at s) where
      target_read : byte_at bs (p + 5 * k) ≡ s.target
      target_read = head bs (p + 5 * k) s.target (pair at (size_of s.value)) held.bytes_stand

      value_named : Named bs l (p + 5 * k + 1) at s.value
      value_named =
          record { bytes_stand = right bs (p + 5 * k) (p + 5 * k + 1) (s.target ∷ []) (pair at (size_of s.value)) refl held.bytes_stand; code_stands = held.code_stands; fits = held.fits }

      slot_passes : (count : ℕ) → k < count → ltb s.target l.resources ≡ true → fresh bs p k s ≡ true → slot_checked bs l p count k at ≡ Ok (at + size_of s.value)
      unfolding slot_checked
      slot_passes count used small new =
          cond-true _ _ _ (lt-ltb k count used) ∙ granted _ _ _ (subst (λ t. (ltb t l.resources && not (repeated bs p t k)) ≡ true) (sym target_read) (and_from _ _ small new)) ∙ pair_passes (p + 5 * k + 1) at s.value value_named

      slot_read : (c : Scope) → right_expression c s.value ≡ true → slot_at bs (code_from l) (p + 5 * k) ≡ s
      slot_read c good =
          let value = expression_read (p + 5 * k + 1) at s.value value_named c good in
          λ i. record { target = target_read i; value = value i }

    slot_unused : (count k at : ℕ) (rest : List ℕ) → count ≤ k → Stands bs (p + 5 * k) (0 ∷ 0 ∷ 0 ∷ 0 ∷ 0 ∷ rest) → slot_checked bs l p count k at ≡ Ok at
    unfolding slot_checked
    slot_unused count k at rest over zeros =
        let target = head bs (p + 5 * k) 0 (0 ∷ 0 ∷ 0 ∷ 0 ∷ rest) zeros in
        let after = right bs (p + 5 * k) (p + 5 * k + 1) (0 ∷ []) (0 ∷ 0 ∷ 0 ∷ 0 ∷ rest) refl zeros in
        let numbers = four_read bs (p + 5 * k + 1) 0 (left bs (p + 5 * k + 1) (0 ∷ 0 ∷ 0 ∷ 0 ∷ []) rest after) in
        cond-false _ _ _ (le-ltb k count over) ∙ granted _ _ _ (eq-eqb _ _ target) ∙ granted _ _ _ (eq-eqb _ _ numbers)

    fresh_more : (k t : ℕ) (ss : List Slot) → byte_at bs (p + 5 * k) ≡ t → unset t ss ≡ true → every (fresh bs p k) ss ≡ true → every (fresh bs p (k + 1)) ss ≡ true
    unfolding every unset repeated
    fresh_more k t [] e other new = refl
    fresh_more k t (s ∷ ss) e other new =
        let others = and_parts (not (eqb s.target t)) (unset t ss) other in
        let news = and_parts (fresh bs p k s) (every (fresh bs p k) ss) new in
        let differs : eqb (byte_at bs (p + 5 * k)) s.target ≡ false = ne_eqb _ _ (λ same. eqb-false _ _ (not-true _ others.0) (sym same ∙ e)) in
        let none : repeated bs p s.target (k + 1) ≡ false = ap (repeated bs p s.target) (add-one k) ∙ or_from _ _ differs (not-true _ news.0) in
        and_from _ _ (not_from_false _ none) (fresh_more k t ss e others.1 news.1)

    each_fresh : (k at : ℕ) (ss : List Slot) → Each slot_code (SlotHeld bs l p) k at ss → distinct ss ≡ true → every (fresh bs p k) ss ≡ true → Each slot_code (λ j a s. fresh bs p j s ≡ true) k at ss
    unfolding distinct every
    each_fresh k at [] held differ new = tt
    each_fresh k at (s ∷ ss) held differ new =
        let differs = and_parts (unset s.target ss) (distinct ss) differ in
        let news = and_parts (fresh bs p k s) (every (fresh bs p k) ss) new in
        (news.0, each_fresh (k + 1) (at + length (slot_code s)) ss held.1 differs.1 (fresh_more k s.target ss (target_read k at s held.0) differs.0 news.1))

    all_fresh : (ss : List Slot) → every (fresh bs p 0) ss ≡ true
    unfolding every repeated
    all_fresh [] = refl
    all_fresh (s ∷ ss) = all_fresh ss

    unused_pass : (count n k at : ℕ) → count ≤ k → Stands bs (p + 5 * k) (slots_bytes n at []) → through (slot_checked bs l p count) n k at ≡ Ok at
    unfolding slots_bytes
    unused_pass count zero k at over stand = refl
    unused_pass count (suc n) k at over stand =
        let next : p + 5 * (k + 1) ≡ p + 5 * k + 5 = omega arith in
        let after = right bs (p + 5 * k) (p + 5 * (k + 1)) (0 ∷ 0 ∷ 0 ∷ 0 ∷ 0 ∷ []) (slots_bytes n at []) next stand in
        bound _ _ (λ t. through (slot_checked bs l p count) n (k + 1) t) (slot_unused count k at (slots_bytes n at []) over stand) ∙ unused_pass count n (k + 1) at (omega arith) after

    slots_pass : (count n k at : ℕ) (ss : List Slot) → length ss ≤ n → count ≡ k + length ss → Stands bs (p + 5 * k) (slots_bytes n at ss) → Each slot_code (λ j a s. SlotHeld bs l p j a s × ((ltb s.target l.resources ≡ true) × (fresh bs p j s ≡ true))) k at ss → through (slot_checked bs l p count) n k at ≡ Ok (at + length (slots_code ss))
    unfolding slots_bytes
    slots_pass count n k at [] few e stand each = unused_pass count n k at (omega arith) stand ∙ ap Ok (sym (add-zero at))
    slots_pass count zero k at (s ∷ ss) few e stand each = absurd (omega arith)
    slots_pass count (suc n) k at (s ∷ ss) few e stand each =
        let size = length (slot_code s) in
        let next : p + 5 * (k + 1) ≡ p + 5 * k + 5 = omega arith in
        let after = right bs (p + 5 * k) (p + 5 * (k + 1)) (s.target ∷ pair at size) (slots_bytes n (at + size) ss) next stand in
        let sum : at + size + length (slots_code ss) ≡ at + length (slots_code (s ∷ ss)) = omega (arith, length-append (slot_code s) (slots_code ss)) in
        bound _ _ (λ t. through (slot_checked bs l p count) n (k + 1) t) (slot_passes k at s each.0.0 count (omega arith) each.0.1.0 each.0.1.1) ∙ slots_pass count n (k + 1) (at + size) ss (omega arith) (omega arith) after each.1 ∙ ap Ok sum

    -- the action has the slots ss, whose code begins at the offset `at`
    module _ (receiver : Bool) (at : ℕ) (ss : List Slot) (good : right_action (record { resources = l.resources; receiver = receiver }) ss ≡ true) (held : Held bs l p at (slots_bytes 4 at ss) (slots_code ss)) where
      abbrev scope : Scope
      scope = record { resources = l.resources; receiver = receiver }

      parts : (length ss ≤ 4) × (every (λ x. ltb x.target l.resources) ss ≡ true) × (distinct ss ≡ true) × (every (λ x. right_expression scope x.value) ss ≡ true)
      parts =
          let few = and_parts _ _ good in
          let small = and_parts _ _ few.1 in
          let differ = and_parts _ _ small.1 in
          (leb-true _ _ few.0, small.0, differ.0, differ.1)

      abbrev SlotRight : ℕ → ℕ → Slot → Type 0
      SlotRight k a s = SlotHeld bs l p k a s × (right_expression scope s.value ≡ true)

      each_right : Each slot_code SlotRight 0 at ss
      each_right = each_both slot_code (SlotHeld bs l p) _ 0 at ss (slots_held 4 at ss parts.0 held) (each_every slot_code (λ s. right_expression scope s.value) 0 at ss parts.3)

      pub action_passes : action_checked bs l p (length ss) at ≡ Ok (at + length (slots_code ss))
      unfolding action_checked
      action_passes =
          let stand = slots_held 4 at ss parts.0 held in
          let small = each_every slot_code (λ s. ltb s.target l.resources) 0 at ss parts.1 in
          let new = each_fresh 0 at ss stand parts.2 (all_fresh ss) in
          let start : p ≡ p + 5 * 0 = omega arith in
          slots_pass (length ss) 4 0 at ss parts.0 (omega arith) (subst (λ q. Stands bs q (slots_bytes 4 at ss)) start held.bytes_stand) (each_both slot_code (SlotHeld bs l p) _ 0 at ss stand (each_both slot_code (λ _ _ s. ltb s.target l.resources ≡ true) _ 0 at ss small new))

      pub values_pass : values_checked bs l receiver p (length ss) ≡ Ok tt
      values_pass =
          each_passes slot_code SlotRight (λ k _. expression_checked bs l receiver (p + 5 * k + 1)) (λ k a s h. expression_passes (p + 5 * k + 1) a s.value (value_named k a s h.0) receiver h.1) 0 at ss each_right

      pub slots_read : slots_at bs (code_from l) p (length ss) ≡ ss
      slots_read = each_read slot_code SlotRight (λ k. slot_at bs (code_from l) (p + 5 * k)) (λ k a s h. slot_read k a s h.0 scope h.1) 0 at ss each_right
