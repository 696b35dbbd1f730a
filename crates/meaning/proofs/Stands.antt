-- Bytes that stand at a place of a file. Assumes nothing.
use Rattle.std.proofs.Common.{◌≡◌, ℕ, zero, suc, ◌+◌, ◌-◌, ◌*◌, ◌/◌, ◌%◌, ◌<◌, ◌≤◌, List, [], ◌∷◌, ◌++◌, length, get_or, drop, sym, refl, ap, ◌∙◌, subst, ⊎_elim, add-zero, zero-add, arith}
use Rattle.std.proofs.lemmas.List.{length-append, length-drop, length-take, get_or_append_left, get_or-append_right, get_or-append-add, get_or-drop, get_or-take, ext_get_or}
use Rattle.std.proofs.lemmas.Bool.{cases_lt}
use Rattle.meaning.specs.Bytes.{two_at, four_at, two, four, part, Bytes}
use Rattle.meaning.proofs.Numbers.{two_of, four_of, two_from, four_from}

-- xs stands at p in bs
abbrev pub Stands : List ℕ → ℕ → List ℕ → Type 0
Stands bs p xs = (k : ℕ) → k < length xs → get_or bs (p + k) 0 ≡ get_or xs k 0

pub none : (bs : List ℕ) (p : ℕ) → Stands bs p []
none bs p k h = absurd (omega arith)

pub one : (bs : List ℕ) (p : ℕ) (x : ℕ) → get_or bs p 0 ≡ x → Stands bs p (x ∷ [])
one bs p x e zero h = ap (λ q. get_or bs q 0) (add-zero p) ∙ e
one bs p x e (suc k) h = absurd (omega arith)

pub joins : (bs : List ℕ) (p q : ℕ) (xs ys : List ℕ) → q ≡ p + length xs → Stands bs p xs → Stands bs q ys → Stands bs p (xs ++ ys)
joins bs p q xs ys e front back k h =
    ⊎_elim
    (λ lt. front k lt ∙ sym (get_or_append_left xs ys 0 k lt))
    (λ ge. let same : q + (k - length xs) ≡ p + k = omega arith in
    ap (λ j. get_or bs j 0) (sym same) ∙ back (k - length xs) (omega (arith, length-append xs ys)) ∙ sym (get_or-append_right xs ys (length xs) k 0 refl ge))
    (cases_lt k (length xs))

pub left : (bs : List ℕ) (p : ℕ) (xs ys : List ℕ) → Stands bs p (xs ++ ys) → Stands bs p xs
left bs p xs ys whole k h = whole k (omega (arith, length-append xs ys)) ∙ get_or_append_left xs ys 0 k h

pub right : (bs : List ℕ) (p q : ℕ) (xs ys : List ℕ) → q ≡ p + length xs → Stands bs p (xs ++ ys) → Stands bs q ys
right bs p q xs ys e whole k h =
    let same : q + k ≡ p + (length xs + k) = omega arith in
    ap (λ j. get_or bs j 0) same ∙ whole (length xs + k) (omega (arith, length-append xs ys)) ∙ get_or-append-add xs ys k 0

-- the first of what stands at p
pub head : (bs : List ℕ) (p x : ℕ) (xs : List ℕ) → Stands bs p (x ∷ xs) → get_or bs p 0 ≡ x
head bs p x xs whole = ap (λ j. get_or bs j 0) (sym (add-zero p)) ∙ whole 0 (omega arith)

-- what stands at the beginning, as long as the file, is the file
pub whole : (bs xs : List ℕ) → length bs ≡ length xs → Stands bs 0 xs → bs ≡ xs
whole bs xs long at = ext_get_or 0 bs xs long (λ k h. ap (λ j. get_or bs j 0) (sym (zero-add k)) ∙ at k (omega arith))

pub itself : (bs : List ℕ) → Stands bs 0 bs
itself bs k h = ap (λ j. get_or bs j 0) (zero-add k)

-- what stands inside a file is a part of it
pub is_part : (bs : List ℕ) (p : ℕ) (xs : List ℕ) → p + length xs ≤ length bs → Stands bs p xs → part bs p (length xs) ≡ xs
is_part bs p xs fits at =
    let long : length (part bs p (length xs)) ≡ length xs = length-take (length xs) (drop p bs) ∙ omega (arith, length-drop p bs) in
    ext_get_or 0 _ _ long (λ k h. get_or-take (length xs) (drop p bs) k 0 (omega arith) ∙ get_or-drop p bs k 0 ∙ at k (omega arith))

-- a part of a file stands in it
pub part_stands : (bs : List ℕ) (p n : ℕ) → Stands bs p (part bs p n)
part_stands bs p n k h =
    sym (get_or-take n (drop p bs) k 0 (omega (arith, length-take n (drop p bs))) ∙ get_or-drop p bs k 0)

-- a number stands as its bytes
pub two_stands : (bs : List ℕ) (p n : ℕ) → Bytes bs → two_at bs p ≡ n → Stands bs p (two n)
two_stands bs p n fit e =
    subst (λ m. Stands bs p (two m)) e (subst (Stands bs p) (sym (two_of bs p fit)) (joins bs p (p + 1) (get_or bs p 0 ∷ []) (get_or bs (p + 1) 0 ∷ []) refl (one bs p _ refl) (one bs (p + 1) _ refl)))

pub four_stands : (bs : List ℕ) (p n : ℕ) → Bytes bs → four_at bs p ≡ n → Stands bs p (four n)
four_stands bs p n fit e =
    let c = get_or bs (p + 2) 0 ∷ get_or bs (p + 3) 0 ∷ [] in
    subst (λ m. Stands bs p (four m)) e (subst (Stands bs p) (sym (four_of bs p fit))
    (joins bs p (p + 1) (get_or bs p 0 ∷ []) (get_or bs (p + 1) 0 ∷ c) refl (one bs p _ refl)
    (joins bs (p + 1) (p + 2) (get_or bs (p + 1) 0 ∷ []) c (omega arith) (one bs (p + 1) _ refl)
    (joins bs (p + 2) (p + 3) (get_or bs (p + 2) 0 ∷ []) (get_or bs (p + 3) 0 ∷ []) (omega arith) (one bs (p + 2) _ refl) (one bs (p + 3) _ refl)))))

-- the bytes of a number are read as it
pub two_read : (bs : List ℕ) (p n : ℕ) → Stands bs p (two n) → two_at bs p ≡ n
two_read bs p n at = (λ i. 256 * head bs p (n / 256) (n % 256 ∷ []) at i + at 1 (omega arith) i) ∙ two_from n

pub four_read : (bs : List ℕ) (p n : ℕ) → Stands bs p (four n) → four_at bs p ≡ n
four_read bs p n at =
    (λ i. 16777216 * head bs p (n / 16777216) (n / 65536 % 256 ∷ n / 256 % 256 ∷ n % 256 ∷ []) at i + 65536 * at 1 (omega arith) i + 256 * at 2 (omega arith) i + at 3 (omega arith) i) ∙ four_from n
