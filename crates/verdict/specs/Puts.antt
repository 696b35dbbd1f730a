-- Flows put into a buffer one after the other, as far as it reaches. Assumes nothing.
use Rattle.std.specs.Prelude.{◌≡◌, ℕ, ◌+◌, ◌*◌, List, [], ◌∷◌, length, slice_set}
use Rattle.verdict.specs.declared.flow_buffer.FlowBuffer.{FlowBuffer}
use Rattle.meaning.specs.Flow.{Flow}
use Rattle.meaning.specs.FlowList.{flows_bytes}

-- bytes written from a place on; what lies past the end is let go
unfoldable pub placed : List ℕ → ℕ → List ℕ → List ℕ
placed xs at [] = xs
placed xs at (y ∷ ys) = placed (slice_set xs at y) (at + 1) ys

-- some flows were put at a place, and the next one goes to `end`
pub record Put (xs ys : List ℕ) (at end : ℕ) (fs : List Flow) : Type 0 where
  pub bytes : ys ≡ placed xs at (flows_bytes fs)
  pub ends : end ≡ at + 5 * length fs

-- some flows were put into a buffer, which then still has the bytes that it was lent
pub record PutInto (x y : FlowBuffer) (fs : List Flow) : Type 0 where
  pub put : Put x.out.now y.out.now x.at y.at fs
  pub lent : y.out.ghost_name ≡ x.out.ghost_name
