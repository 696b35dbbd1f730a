-- The header, levels, cells and starts of a file that was read stand one after the other, each as its book writes it.
-- Assumes nothing.
use Rattle.std.proofs.Common.{◌≡◌, ℕ, zero, suc, ◌+◌, ◌*◌, ◌≤◌, true, ◌&&◌, eqb, leb, List, ◌++◌, map, length, ℤ, Ok, sym, refl, subst, arith, w32, of_z}
use lib.Count.{ones}
use Rattle.std.specs.List.{range_with_len, flat_map}
use Rattle.std.proofs.lemmas.List.FromFn.{length-map-range_with_len, get_or-map-range_with_len}
use Rattle.std.proofs.lemmas.Int.{of_z-to_z}
use Rattle.std.proofs.lemmas.Bool.{and_parts, leb-true, eqb-true}
use Rattle.meaning.specs.Bytes.{byte_at, two_at, four_at, four, Bytes}
use Rattle.meaning.specs.File.{count_cells, pair, starts_bytes, header_bytes}
use Rattle.meaning.specs.Layout.{Layout, ones_at, cells_from, starts_from, rules_from, clauses_from, code_from, room}
use Rattle.meaning.specs.Parsed.{start_at}
use Rattle.meaning.specs.Reading.{first_checked, counts_checked, section_right, sections_checked}
use Rattle.meaning.proofs.Numbers.{four_below}
use Rattle.meaning.proofs.Rows.{passed}
use Rattle.meaning.proofs.Fills.{Fills, fills_both, byte_fills, four_fills, pair_fills, row_fills}

-- a row of items of four bytes
fours_fill : {X : Type 0} (bs : List ℕ) (f : X → List ℕ) (item : ℕ → X) (p n : ℕ) → ((i : ℕ) → Fills bs (p + 4 * i) (p + 4 * (i + 1)) (f (item i))) → Fills bs p (p + 4 * n) (flat_map f (map item (range_with_len 0 n)))
fours_fill bs f item p n one =
    let first : p + 4 * 0 ≡ p = omega arith in
    subst (λ i. Fills bs i (p + 4 * n) (flat_map f (map item (range_with_len 0 n)))) first (row_fills bs f item (λ i. p + 4 * i) one n 0 (p + 4 * n) (omega arith))

-- the level k, the mask of device k and the start k
abbrev pub level_of : List ℕ → ℕ → ℕ
level_of bs k = byte_at bs (32 + k)

abbrev pub mask_of : List ℕ → Layout → ℕ → ℕ
mask_of bs l k = four_at bs (cells_from l + 4 * k)

abbrev pub start_of : List ℕ → Layout → ℕ → ℤ
start_of bs l k = start_at bs (starts_from l + 4 * k)

-- the six pairs of a header, in a layout
abbrev pairs : Layout → List ℕ
pairs l =
    pair 32 l.resources ++ (pair (cells_from l) (4 * l.devices) ++ (pair (starts_from l) (4 * l.cells) ++ (pair (rules_from l) (53 * l.rules) ++ (pair (clauses_from l) (5 * l.clauses) ++ pair (code_from l) (room l)))))

-- a section that was checked: its pair stands in the header, and its end is in the file
section_fills : (bs : List ℕ) (p q from size : ℕ) → Bytes bs → q ≡ p + 4 → section_right bs p from size ≡ true → Fills bs p q (pair from size) × (from + size ≤ length bs)
section_fills bs p q from size fit four_on e =
    let offset = and_parts (eqb (two_at bs p) from) _ e in
    let rest = and_parts (eqb (two_at bs (p + 2)) size) _ offset.1 in
    (pair_fills bs p q from size fit four_on (eqb-true _ from offset.0) (eqb-true _ size rest.0), leb-true (from + size) (length bs) rest.1)

pub counts_right : (l : Layout) → counts_checked l ≡ Ok tt → (1 ≤ l.devices) × (l.devices ≤ 16) × (1 ≤ l.resources) × (l.resources ≤ 32) × (l.rules ≤ 32) × (l.clauses ≤ 32)
counts_right l e =
    let devices = passed (leb 1 l.devices && leb l.devices 16) _ _ tt e in
    let resources = passed (leb 1 l.resources && leb l.resources 32) _ _ tt devices.1 in
    let rules = passed (leb l.rules 32) _ _ tt resources.1 in
    let clauses = passed (leb l.clauses 32) _ _ tt rules.1 in
    let few = and_parts (leb 1 l.devices) _ devices.0 in
    let named = and_parts (leb 1 l.resources) _ resources.0 in
    (leb-true 1 _ few.0, leb-true _ 16 few.1, leb-true 1 _ named.0, leb-true _ 32 named.1, leb-true _ 32 rules.0, leb-true _ 32 clauses.0)

-- the cells of some masks in a row are what the layout counts
pub count_at : (bs : List ℕ) (p q n a : ℕ) → q ≡ p + 4 * a → count_cells (map (λ k. four_at bs (p + 4 * k)) (range_with_len a n)) ≡ ones_at bs q n
unfolding count_cells ones_at
count_at bs p q zero a e = refl
count_at bs p q (suc n) a e = λ i. ones (four_at bs (sym e i)) + count_at bs p (q + 4) n (a + 1) (omega arith) i

module _ (bs : List ℕ) (l : Layout) (fit : Bytes bs) where
  pub levels_fill : Fills bs 32 (cells_from l) (map (level_of bs) (range_with_len 0 l.resources))
  levels_fill =
      let long = length-map-range_with_len (level_of bs) 0 l.resources in
      record { stands = λ k h. sym (get_or-map-range_with_len (level_of bs) 0 l.resources k k 0 (omega arith) (omega arith)); ends = omega arith }

  pub cells_fill : Fills bs (cells_from l) (starts_from l) (flat_map four (map (mask_of bs l) (range_with_len 0 l.devices)))
  cells_fill =
      fours_fill bs four (mask_of bs l) (cells_from l) l.devices
      (λ i. four_fills bs (cells_from l + 4 * i) (cells_from l + 4 * (i + 1)) (mask_of bs l i) fit (omega arith) refl)

  pub starts_fill : Fills bs (starts_from l) (rules_from l) (starts_bytes (map (start_of bs l) (range_with_len 0 l.cells)))
  starts_fill =
      fours_fill bs (λ z. four (of_z w32 z)) (start_of bs l) (starts_from l) l.cells
      (λ i. let p = starts_from l + 4 * i in
      four_fills bs p (starts_from l + 4 * (i + 1)) (of_z w32 (start_of bs l i)) fit (omega arith) (sym (of_z-to_z w32 (four_at bs p) (four_below bs p fit))))

  module _ (checked : sections_checked bs l ≡ Ok tt) where
    -- the pairs are those of the layout, and the code ends inside the file
    pub sections_right : Fills bs 8 32 (pairs l) × (code_from l + room l ≤ length bs)
    sections_right =
        let levels = passed (section_right bs 8 32 l.resources) _ _ tt checked in
        let cells = passed (section_right bs 12 (cells_from l) (4 * l.devices)) _ _ tt levels.1 in
        let starts = passed (section_right bs 16 (starts_from l) (4 * l.cells)) _ _ tt cells.1 in
        let rules = passed (section_right bs 20 (rules_from l) (53 * l.rules)) _ _ tt starts.1 in
        let clauses = passed (section_right bs 24 (clauses_from l) (5 * l.clauses)) _ _ tt rules.1 in
        let code = section_fills bs 28 32 (code_from l) (room l) fit refl (passed (section_right bs 28 (code_from l) (room l)) _ (Ok tt) tt clauses.1).0 in (
          fills_both (section_fills bs 8 12 32 l.resources fit refl levels.0).0
              (fills_both (section_fills bs 12 16 (cells_from l) (4 * l.devices) fit refl cells.0).0
              (fills_both (section_fills bs 16 20 (starts_from l) (4 * l.cells) fit refl starts.0).0
              (fills_both (section_fills bs 20 24 (rules_from l) (53 * l.rules) fit refl rules.0).0
              (fills_both (section_fills bs 24 28 (clauses_from l) (5 * l.clauses) fit refl clauses.0).0 code.0)))),
          code.1,
        )

    pub header_fills : first_checked bs ≡ Ok tt → byte_at bs 4 ≡ l.devices → byte_at bs 5 ≡ l.resources → byte_at bs 6 ≡ l.rules → byte_at bs 7 ≡ l.clauses → Fills bs 0 32 (header_bytes l.devices l.resources l.rules l.clauses l.cells (room l))
    header_fills first devices resources rules clauses =
        fills_both (four_fills bs 0 4 1094866225 fit refl (eqb-true (four_at bs 0) 1094866225 (passed _ _ (Ok tt) tt (passed (leb 32 (length bs)) _ _ tt first).1).0))
        (fills_both (byte_fills bs 4 5 l.devices refl devices)
        (fills_both (byte_fills bs 5 6 l.resources refl resources)
        (fills_both (byte_fills bs 6 7 l.rules refl rules)
        (fills_both (byte_fills bs 7 8 l.clauses refl clauses) sections_right.0))))
