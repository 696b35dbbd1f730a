-- Each instruction adds what it reads, and the others what they would alone.
use Rattle.std.proofs.Common.{◌≡◌, ℕ, true, [], ◌∷◌, sym, refl, ap, ◌∙◌}
use Rattle.std.proofs.lemmas.Bool.{and_parts}
use Rattle.meaning.specs.declared.instruction.Instruction.{Instruction}
use Rattle.meaning.specs.Expression as meant
use Rattle.meaning.specs.Expression.{Expression, decoded}
use Rattle.meaning.specs.WellFormed.{every}
use Rattle.book.specs.Sides.{read_of, reads_of, small}
use Rattle.book.specs.declared.sides.Side.{Side}
use Rattle.book.specs.declared.sides.Side.TheVariants as side
use Rattle.book.proofs.sets.reads.Goals as goal

reads_first : (s : Side) (m : ℕ) (i : Instruction) (e : Expression) → reads_of s m (i ∷ e) ≡ reads_of s (read_of s m i) e
unfolding meant.reads meant.asks
reads_first side.Own m i e = refl
reads_first side.Receiver m i e = refl

reads_none : (s : Side) (m : ℕ) → reads_of s m [] ≡ m
unfolding meant.reads meant.asks
reads_none side.Own m = refl
reads_none side.Receiver m = refl

small_parts : {i : Instruction} {e whole : Expression} → whole ≡ i ∷ e → every small whole ≡ true → (small i ≡ true) × (every small e ≡ true)
unfolding every
small_parts {i} spells all = and_parts (small i) _ (sym (ap (every small) spells) ∙ all)

pub with_read-set-requires : goal.with_read-set-requires
with_read-set-requires c = (small_parts c.in-Some.ensures.steps c.loop-instruction.invariant.1).0

pub loop-instruction-preserved : goal.loop-instruction-preserved
loop-instruction-preserved c =
    let s = c.args.side in
    let left = decoded c.next.new.self.code.now in
    let first = ap (reads_of s c.loop-instruction.set) c.in-Some.ensures.steps ∙ reads_first s c.loop-instruction.set c.in-Some.instruction left in
    (ap (λ n. reads_of s n left) c.with_read-set.ensures ∙ sym first ∙ c.loop-instruction.invariant.0, (small_parts c.in-Some.ensures.steps c.loop-instruction.invariant.1).1)

pub returns : goal.returns
returns c =
    let s = c.args.side in
    sym (reads_none s _) ∙ sym (ap (reads_of s c.loop-instruction.set) c.in-None.ensures.steps.0) ∙ c.loop-instruction.invariant.0
