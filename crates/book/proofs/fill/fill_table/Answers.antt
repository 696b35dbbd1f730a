-- Each turn writes the next entry, and leaves those before it.
use Rattle.std.proofs.Common.{◌≡◌, ◌+◌, ◌*◌, [], ◌∷◌, ◌++◌, drop, sym, ap, ◌∙◌, add-zero, arith}
use Rattle.std.proofs.lemmas.List.{take_more_set, drop-drop}
use Rattle.std.proofs.lemmas.List.FromFn.{map-range_with_len_more}
use Rattle.book.proofs.fill.fill_table.Goals as goal

pub loop-k-preserved : goal.loop-k-preserved
loop-k-preserved g c =
    let spelt = g.T.Spelt.spelt in
    let bs = c.args.bytes.now in
    let place = c.args.from + c.args.size * c.loop-k.k in
    let here = c.spelt_in.ensures ∙ ap (λ records. spelt records 0) c.loop-k.invariant.1 ∙ g.met.T.Spelt.shifted bs place 0 ∙ ap (spelt bs) (add-zero place) in
    let next : place + c.args.size ≡ c.args.from + c.args.size * (c.loop-k.k + 1) = grind arith in (
      take_more_set c.loop-k.table c.loop-k.k c.spelt_in.result (omega arith) ∙ (λ i. c.loop-k.invariant.0 i ++ (here i ∷ [])) ∙ sym (map-range_with_len_more (λ j. spelt bs (c.args.from + c.args.size * j)) 0 c.loop-k.k c.loop-k.k (omega arith)),
      c.rest-records-in-loop-k.ensures ∙ ap (drop c.args.size) c.loop-k.invariant.1 ∙ drop-drop c.args.size place bs ∙ ap (λ n. drop n bs) next,
    )
