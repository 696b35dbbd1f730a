-- Bytes that stand from one place of a file up to another, one after the other. Assumes nothing.
use Rattle.std.proofs.Common.{◌≡◌, ℕ, zero, suc, ◌+◌, ◌≤◌, List, [], ◌∷◌, ◌++◌, map, length, get_or, drop, refl, ap, ◌∙◌, arith}
use Rattle.std.specs.List.{range_with_len, flat_map}
use Rattle.std.proofs.lemmas.List.{length-append, length-drop, length-take}
use Rattle.meaning.specs.Bytes.{two_at, four_at, part, two, four, Bytes}
use Rattle.meaning.specs.File.{pair}
use Rattle.meaning.proofs.Stands.{Stands, none, one, joins, whole, part_stands, two_stands, four_stands}

-- xs stands from p up to q
pub record Fills (bs : List ℕ) (p q : ℕ) (xs : List ℕ) : Type 0 where
  pub stands : Stands bs p xs
  pub ends : q ≡ p + length xs

pub fills_none : (bs : List ℕ) (p q : ℕ) → p ≡ q → Fills bs p q []
fills_none bs p q e = record { stands = none bs p; ends = omega arith }

pub fills_both : {bs : List ℕ} {p q r : ℕ} {xs ys : List ℕ} → Fills bs p q xs → Fills bs q r ys → Fills bs p r (xs ++ ys)
fills_both {bs} {p} {q} {r} {xs} {ys} front back =
    record { stands = joins bs p q xs ys front.ends front.stands back.stands; ends = omega (arith, length-append xs ys) }

pub byte_fills : (bs : List ℕ) (p q x : ℕ) → q ≡ p + 1 → get_or bs p 0 ≡ x → Fills bs p q (x ∷ [])
byte_fills bs p q x e is = record { stands = one bs p x is; ends = e }

pub two_fills : (bs : List ℕ) (p q n : ℕ) → Bytes bs → q ≡ p + 2 → two_at bs p ≡ n → Fills bs p q (two n)
two_fills bs p q n fit e is = record { stands = two_stands bs p n fit is; ends = e }

pub four_fills : (bs : List ℕ) (p q n : ℕ) → Bytes bs → q ≡ p + 4 → four_at bs p ≡ n → Fills bs p q (four n)
four_fills bs p q n fit e is = record { stands = four_stands bs p n fit is; ends = e }

pub pair_fills : (bs : List ℕ) (p q offset size : ℕ) → Bytes bs → q ≡ p + 4 → two_at bs p ≡ offset → two_at bs (p + 2) ≡ size → Fills bs p q (pair offset size)
pair_fills bs p q offset size fit e at long = fills_both (two_fills bs p (p + 2) offset fit refl at) (two_fills bs (p + 2) q size fit (omega arith) long)

pub part_fills : (bs : List ℕ) (p n : ℕ) → p + n ≤ length bs → Fills bs p (p + n) (part bs p n)
part_fills bs p n inside =
    record { stands = part_stands bs p n; ends = omega (arith, length-take n (drop p bs), length-drop p bs) }

-- a row of items, each of which stands from its place up to the next one's
pub row_fills : {X : Type 0} (bs : List ℕ) (f : X → List ℕ) (item : ℕ → X) (place : ℕ → ℕ) → ((i : ℕ) → Fills bs (place i) (place (i + 1)) (f (item i))) → (n a q : ℕ) → place (a + n) ≡ q → Fills bs (place a) q (flat_map f (map item (range_with_len a n)))
row_fills bs f item place one zero a q e = fills_none bs (place a) q (let same : a ≡ a + 0 = omega arith in ap place same ∙ e)
row_fills bs f item place one (suc n) a q e =
    let more : a + 1 + n ≡ a + suc n = omega arith in
    fills_both (one a) (row_fills bs f item place one n (a + 1) q (ap place more ∙ e))

-- what fills a file is the file
pub is_file : (bs xs : List ℕ) → Fills bs 0 (length bs) xs → bs ≡ xs
is_file bs xs all = whole bs xs (omega (arith, all.ends)) all.stands
