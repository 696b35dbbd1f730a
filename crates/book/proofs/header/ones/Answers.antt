-- The masks have together what the definition counts, and each at most 32.
use Rattle.std.proofs.Common.{◌≡◌, ℕ, zero, suc, ◌+◌, ◌*◌, ◌≤◌, List, map, sum, refl, ap, ◌∙◌, add-zero, arith, rules}
use lib.Count.{ones}
use Rattle.std.specs.List.{range_with_len}
use Rattle.std.proofs.lemmas.Iterator.{YieldsList-from_range, YieldsList-from_map}
use Rattle.std.proofs.lemmas.Iterator.Consumers.{sum_from_yields_List, fits_from_yields_list}
use Rattle.std.proofs.lemmas.List.Sums.{sum_by-cons}
use Rattle.std.proofs.lemmas.Nat.{ones-le}
use Rattle.meaning.specs.Bytes.{four_at, Bytes}
use Rattle.meaning.specs.Layout.{ones_at}
use Rattle.book.proofs.header.ones.Goals as goal

-- the ones of mask d, of those at p
abbrev mask : List ℕ → ℕ → ℕ → ℕ
mask bs p d = ones (four_at bs (p + 4 * d))

counted : (bs : List ℕ) (p a n : ℕ) → sum (map (mask bs p) (range_with_len a n)) ≡ ones_at bs (p + 4 * a) n
unfolding ones_at
counted bs p a zero = refl
counted bs p a (suc n) =
    let next : p + 4 * (a + 1) ≡ p + 4 * a + 4 = omega arith in
    sum_by-cons (λ x. x) (mask bs p a) (map (mask bs p) (range_with_len (a + 1) n)) ∙ ap (λ k. mask bs p a + k) (counted bs p (a + 1) n ∙ ap (λ q. ones_at bs q n) next)

all_counted : (bs : List ℕ) (p n : ℕ) → sum (map (mask bs p) (range_with_len 0 n)) ≡ ones_at bs p n
all_counted bs p n = counted bs p 0 n ∙ ap (λ q. ones_at bs q n) (add-zero p)

few : (bs : List ℕ) → Bytes bs → (p n : ℕ) → ones_at bs p n ≤ 32 * n
unfolding ones_at
few bs fit p zero = omega arith
few bs fit p (suc n) =
    let here = ones-le 32 (four_at bs p) (omega (arith, fit p, fit (p + 1), fit (p + 2), fit (p + 3))) in
    omega (arith, few bs fit (p + 4) n)

pub sum-ones-requires-clause-fits : goal.sum-ones-requires-clause-fits
sum-ones-requires-clause-fits c =
    let bs = c.args.bytes.now in
    let bound = few bs (λ i. (c.type_inv.bytes i).fits) c.args.from c.args.devices in
    fits_from_yields_list c.map.result _ (YieldsList-from_map _ (mask bs c.args.from) (YieldsList-from_range 0 c.args.devices c.args.devices (cc) (omega arith)) c.map.ensures.closure (λ d r q k. search rules)) (omega (arith, all_counted bs c.args.from c.args.devices))

pub returns : goal.returns
returns c =
    let bs = c.args.bytes.now in
    let bound = few bs (λ i. (c.type_inv.bytes i).fits) c.args.from c.args.devices in
    let value = sum_from_yields_List c.map.result c.sum-ones.result c.sum-ones.ensures.ran (YieldsList-from_map _ (mask bs c.args.from) (YieldsList-from_range 0 c.args.devices c.args.devices (cc) (omega arith)) c.map.ensures.closure (λ d r q k. search rules)) ∙ all_counted bs c.args.from c.args.devices in
    record { value = value; bound = omega (arith, value) }
