-- Expressions and actions that were read: what their bytes spell is right, and stands in the file as it is written.
-- Assumes nothing.
use Rattle.std.proofs.Common.{◌≡◌, ℕ, zero, suc, ◌+◌, ◌-◌, ◌*◌, ◌<◌, ◌≤◌, Bool, true, false, not, ◌&&◌, eqb, ltb, leb, List, [], ◌∷◌, map, length, drop, Some, None, Ok, Option, sym, refl, ap, ◌∙◌, subst, ⊎_elim, arith}
use Rattle.std.specs.List.{range_with_len}
use Rattle.std.proofs.lemmas.List.FromFn.{length-map-range_with_len}
use Rattle.std.proofs.lemmas.List.{length-take, get_or-take, get_or-drop, get_or_past}
use Rattle.std.proofs.lemmas.Bool.{and_parts, and_from, or_parts, not-true, not_from_false, cond-true, cond-false, cases_lt, cases_eq, lt-ltb, le-ltb, leb-true, le-leb, eqb-true, eqb-false, ne_eqb}
use Rattle.meaning.specs.Bytes.{byte_at, two_at, four_at, part, four, Bytes}
use Rattle.meaning.specs.Checks.{through}
use Rattle.meaning.specs.Expression.{Expression, Scope, encoded_expression, right_from, right}
use Rattle.meaning.specs.Book.{Slot}
use Rattle.meaning.specs.File.{pair, size_of, slots_code, slots_bytes}
use Rattle.meaning.specs.WellFormed.{unset, distinct, right_action}
use Rattle.meaning.specs.Layout.{Layout, code_from, room}
use Rattle.meaning.specs.Parsed.{expression_at, slot_at, slots_at}
use Rattle.meaning.specs.Reading.{pair_checked, repeated, slot_checked, action_checked, expression_fault, expression_checked, values_checked}
use Rattle.meaning.proofs.Rows.{passed, both}
use Rattle.meaning.proofs.Expressions.{decoded_right}
use Rattle.meaning.proofs.Fills.{Fills, fills_both, byte_fills, four_fills, pair_fills, part_fills}
use Rattle.meaning.proofs.Loops.{each, every_row}
use Rattle.meaning.proofs.Written.{Written, code_ends, written_none, written_both, written_after}

-- a part of some bytes has only bytes
pub part_bytes : (bs : List ℕ) (p n : ℕ) → Bytes bs → Bytes (part bs p n)
part_bytes bs p n fit i =
    ⊎_elim
    (λ lt. let same = get_or-take n (drop p bs) i 0 lt ∙ get_or-drop p bs i 0 in omega (arith, fit (p + i)))
    (λ ge. let same = get_or_past (part bs p n) i 0 (omega (arith, length-take n (drop p bs))) in omega arith)
    (cases_lt i n)

pub no_fault : (at : ℕ) (o : Option ℕ) → expression_fault at o ≡ Ok tt → o ≡ None
no_fault at None e = refl
no_fault at (Some k) e = absurd (let z : ◌≡◌ {A = ℕ} 0 1 = cc in omega arith)

-- a used slot of an action at p passed its three checks
pub slot_used : (bs : List ℕ) (l : Layout) (p count k at end : ℕ) → k < count → slot_checked bs l p count k at ≡ Ok end → (ltb (byte_at bs (p + 5 * k)) l.resources ≡ true) × (repeated bs p (byte_at bs (p + 5 * k)) k ≡ false) × (pair_checked bs l (p + 5 * k + 1) at ≡ Ok end)
unfolding slot_checked
slot_used bs l p count k at end lt e =
    let t = byte_at bs (p + 5 * k) in
    let tests = passed (ltb t l.resources && not (repeated bs p t k)) _ (pair_checked bs l (p + 5 * k + 1) at) end (sym (cond-true (ltb k count) _ _ (lt-ltb k count lt)) ∙ e) in
    let parts = and_parts (ltb t l.resources) (not (repeated bs p t k)) tests.0 in
    (parts.0, not-true (repeated bs p t k) parts.1, tests.1)

-- no slot before the k-th has the target t
not_repeated : (bs : List ℕ) (p t k : ℕ) → repeated bs p t k ≡ false → (j : ℕ) → j < k → byte_at bs (p + 5 * j) ≡ t → ⊥
unfolding repeated
not_repeated bs p t zero e j lt same = absurd (omega arith)
not_repeated bs p t (suc k) e j lt same =
    let parts = or_parts (eqb (byte_at bs (p + 5 * k)) t) (repeated bs p t k) e in
    ⊎_elim
    (λ last. eqb-false (byte_at bs (p + 5 * k)) t parts.0 (ap (λ i. byte_at bs (p + 5 * i)) (sym last) ∙ same))
    (λ other. not_repeated bs p t k parts.1 j (omega arith) same)
    (cases_eq j k)

-- a row of slots whose targets all differ from t, and one whose targets differ from each other
unset_row : (t : ℕ) (g : ℕ → Slot) (n a : ℕ) → ((i : ℕ) → a ≤ i → i < a + n → (g i).target ≡ t → ⊥) → unset t (map g (range_with_len a n)) ≡ true
unfolding unset
unset_row t g zero a differ = refl
unset_row t g (suc n) a differ =
    and_from (not (eqb (g a).target t)) (unset t (map g (range_with_len (a + 1) n)))
    (not_from_false (eqb (g a).target t) (ne_eqb (g a).target t (differ a (omega arith) (omega arith))))
    (unset_row t g n (a + 1) (λ i low high. differ i (omega arith) (omega arith)))

distinct_row : (g : ℕ → Slot) (n a : ℕ) → ((i j : ℕ) → i < j → j < a + n → (g i).target ≡ (g j).target → ⊥) → distinct (map g (range_with_len a n)) ≡ true
unfolding distinct
distinct_row g zero a differ = refl
distinct_row g (suc n) a differ =
    and_from (unset (g a).target (map g (range_with_len (a + 1) n))) (distinct (map g (range_with_len (a + 1) n)))
    (unset_row (g a).target g n (a + 1) (λ i low high same. differ a i (omega arith) (omega arith) (sym same)))
    (distinct_row g n (a + 1) (λ i j lt high. differ i j lt (omega arith)))

abbrev scope : Layout → Bool → Scope
scope l receiver = record { resources = l.resources; receiver = receiver }

-- what the pair at p names
abbrev expression_of : List ℕ → Layout → ℕ → Expression
expression_of bs l p = expression_at bs (code_from l) p

-- slot k of the action at p
abbrev slot_of : List ℕ → Layout → ℕ → ℕ → Slot
slot_of bs l p k = slot_at bs (code_from l) (p + 5 * k)

-- the used slots of the action at p
abbrev slots_of : List ℕ → Layout → ℕ → ℕ → List Slot
slots_of bs l p count = slots_at bs (code_from l) p count

-- a used slot, whose code begins at `at`
abbrev slot_bytes : ℕ → Slot → List ℕ
slot_bytes at s = s.target ∷ pair at (size_of s.value)

module _ (bs : List ℕ) (l : Layout) (fit : Bytes bs) (fits : code_from l + room l ≤ length bs) where
  -- an expression that was checked is right, and its code is the part of the file that its pair names
  module _ (receiver : Bool) (p : ℕ) (checked : expression_checked bs l receiver p ≡ Ok tt) where
    abbrev size : ℕ
    size = two_at bs (p + 2)

    abbrev from : ℕ
    from = code_from l + two_at bs p

    size_small : size ≤ 64
    unfolding expression_checked
    size_small = leb-true size 64 (and_parts (leb 1 size) (leb size 64) (passed _ _ _ tt checked).0).1

    code_right : (right_from (scope l receiver) 0 (expression_of bs l p) ≡ true) × (encoded_expression (expression_of bs l p) ≡ part bs from size)
    unfolding expression_checked
    code_right = decoded_right (scope l receiver) (part bs from size) (part_bytes bs from size fit) (no_fault from _ (passed (leb 1 size && leb size 64) _ _ tt checked).1)

    pub expression_right : right (scope l receiver) (expression_of bs l p) ≡ true
    expression_right =
        and_from _ _ code_right.0 (le-leb (size_of (expression_of bs l p)) 64 (omega (arith, size_small, ap length code_right.1, length-take size (drop from bs))))

    -- its pair and its code stand in the file
    pub expression_written : (q at end : ℕ) → q ≡ p + 4 → pair_checked bs l p at ≡ Ok end → Written bs (code_from l) p q at end (pair at (size_of (expression_of bs l p))) (encoded_expression (expression_of bs l p))
    expression_written q at end four_on e =
        let tests = passed (eqb (two_at bs p) at && leb (at + size) (room l)) _ (Ok (at + size)) end e in
        let parts = and_parts (eqb (two_at bs p) at) (leb (at + size) (room l)) tests.0 in
        let starts = eqb-true (two_at bs p) at parts.0 in
        let inside = leb-true (at + size) (room l) parts.1 in
        let code = part_fills bs from size (omega arith) in
        let over : at + size ≡ end = (let h = tests.1 in cc) in
        let ends : from + size ≡ code_from l + end = omega arith in
        let long : size ≡ size_of (expression_of bs l p) = omega (arith, code.ends, ap length code_right.1) in
        record {
          here = pair_fills bs p q at (size_of (expression_of bs l p)) fit four_on starts long;
          there =
              subst (λ k. Fills bs (code_from l + k) (code_from l + end) (encoded_expression (expression_of bs l p))) starts
              (subst (λ k. Fills bs from k (encoded_expression (expression_of bs l p))) ends (subst (Fills bs from (from + size)) (sym code_right.1) code));
        }

  -- the slots of an action at p, of which some are used
  module _ (p count : ℕ) where
    -- an unused one is zero
    zeros_written : (k q at end : ℕ) → q ≡ p + 5 * k + 5 → count ≤ k → slot_checked bs l p count k at ≡ Ok end → Written bs (code_from l) (p + 5 * k) q at end (0 ∷ four 0) []
    unfolding slot_checked
    zeros_written k q at end five_on ge e =
        let i = p + 5 * k in
        let target = passed (eqb (byte_at bs i) 0) _ _ end (sym (cond-false (ltb k count) _ _ (le-ltb k count ge)) ∙ e) in
        let rest = passed (eqb (four_at bs (i + 1)) 0) _ (Ok at) end target.1 in
        let same : at ≡ end = (let h = rest.1 in cc) in
        written_after
        (fills_both (byte_fills bs i (i + 1) 0 refl (eqb-true _ 0 target.0)) (four_fills bs (i + 1) q 0 fit (omega arith) (eqb-true _ 0 rest.0)))
        (written_none bs (code_from l) q q at end refl same)

    module _ (receiver : Bool) (values : (k : ℕ) → k < count → expression_checked bs l receiver (p + 5 * k + 1) ≡ Ok tt) where
      slot_written : (k q at end : ℕ) → q ≡ p + 5 * k + 5 → k < count → slot_checked bs l p count k at ≡ Ok end → Written bs (code_from l) (p + 5 * k) q at end (slot_bytes at (slot_of bs l p k)) (encoded_expression (slot_of bs l p k).value)
      slot_written k q at end five_on lt e =
          let i = p + 5 * k in
          written_after (byte_fills bs i (i + 1) (byte_at bs i) refl refl) (expression_written receiver (i + 1) (values k lt) q at end (omega arith) (slot_used bs l p count k at end lt e).2)

      -- n places from slot k on, of which r are used
      slots_written : (n r k q at end : ℕ) → r ≤ n → count - k ≡ r → q ≡ p + 5 * (k + n) → through (slot_checked bs l p count) n k at ≡ Ok end → Written bs (code_from l) (p + 5 * k) q at end (slots_bytes n at (map (slot_of bs l p) (range_with_len k r))) (slots_code (map (slot_of bs l p) (range_with_len k r)))
      unfolding slots_bytes
      slots_written zero zero k q at end some left to e = written_none bs (code_from l) (p + 5 * k) q at end (omega arith) (cc)
      slots_written zero (suc r) k q at end some left to e = absurd (omega arith)
      slots_written (suc n) zero k q at end some left to e =
          let step = both (slot_checked bs l p count k at) (λ u. through (slot_checked bs l p count) n (k + 1) u) end e in
          let first = zeros_written k (p + 5 * (k + 1)) at step.0 (omega arith) (omega arith) step.1 in
          let rest = slots_written n zero (k + 1) q step.0 end (omega arith) (omega arith) (omega arith) step.2 in
          let kept : step.0 ≡ at = omega (arith, code_ends first) in
          written_both first (subst (λ j. Written bs (code_from l) (p + 5 * (k + 1)) q step.0 end (slots_bytes n j []) []) kept rest)
      slots_written (suc n) (suc r) k q at end some left to e =
          let step = both (slot_checked bs l p count k at) (λ u. through (slot_checked bs l p count) n (k + 1) u) end e in
          let first = slot_written k (p + 5 * (k + 1)) at step.0 (omega arith) (omega arith) step.1 in
          let rest = slots_written n r (k + 1) q step.0 end (omega arith) (omega arith) (omega arith) step.2 in
          let ss = map (slot_of bs l p) (range_with_len (k + 1) r) in
          written_both first (subst (λ j. Written bs (code_from l) (p + 5 * (k + 1)) q step.0 end (slots_bytes n j ss) (slots_code ss)) (code_ends first) rest)

  -- an action that was checked, with its expressions
  module _ (receiver : Bool) (p count at end : ℕ) (few : count ≤ 4) (checked : action_checked bs l p count at ≡ Ok end) (values : values_checked bs l receiver p count ≡ Ok tt) where
    values_each : (k : ℕ) → k < count → expression_checked bs l receiver (p + 5 * k + 1) ≡ Ok tt
    values_each k lt = (each (λ i _. expression_checked bs l receiver (p + 5 * i + 1)) count tt tt values k lt).2

    used_each : (k : ℕ) → k < count → (ltb (byte_at bs (p + 5 * k)) l.resources ≡ true) × (repeated bs p (byte_at bs (p + 5 * k)) k ≡ false)
    unfolding action_checked
    used_each k lt =
        let one = each (slot_checked bs l p count) 4 at end checked k (omega arith) in
        let used = slot_used bs l p count k one.0 one.1 lt one.2 in
        (used.0, used.1)

    pub action_written : (q : ℕ) → q ≡ p + 20 → Written bs (code_from l) p q at end (slots_bytes 4 at (slots_of bs l p count)) (slots_code (slots_of bs l p count))
    unfolding action_checked
    action_written q e =
        let first : p + 5 * 0 ≡ p = omega arith in
        subst (λ i. Written bs (code_from l) i q at end (slots_bytes 4 at (slots_of bs l p count)) (slots_code (slots_of bs l p count))) first
        (slots_written p count receiver values_each 4 count 0 q at end few (omega arith) (omega arith) checked)

    pub action_right : right_action (scope l receiver) (slots_of bs l p count) ≡ true
    action_right =
        and_from _ _ (le-leb (length (slots_of bs l p count)) 4 (omega (arith, length-map-range_with_len (slot_of bs l p) 0 count)))
        (and_from _ _ (every_row (λ s. ltb s.target l.resources) (slot_of bs l p) count (λ k lt. (used_each k lt).0))
        (and_from _ _ (distinct_row (slot_of bs l p) count 0 (λ i j lt high. not_repeated bs p (byte_at bs (p + 5 * j)) j (used_each j (omega arith)).1 i lt))
        (every_row (λ s. right (scope l receiver) s.value) (slot_of bs l p) count (λ k lt. expression_right receiver (p + 5 * k + 1) (values_each k lt)))))
