use Rattle.std.proofs.Common.{◌≡◌, ◌+◌, ◌*◌, map, take, drop}
use Rattle.std.specs.List.{range_with_len}
use Rattle.book.proofs.fill.fill_table.Given as goal

abbrev pub invariant-loop-k : goal.invariant-loop-k
invariant-loop-k g l =
    (take l.k l.table ≡ map (λ j. g.T.Spelt.spelt l.bytes (l.from + l.size * j)) (range_with_len 0 l.k)) × (l.records ≡ drop (l.from + l.size * l.k) l.bytes)
