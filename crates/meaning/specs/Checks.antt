-- Checks in an order: the first that fails is the answer. Assumes nothing.
use Rattle.std.specs.Prelude.{ℕ, zero, suc, ◌+◌, Bool, true, false, Ok, Err, Result}
use Rattle.fault.specs.declared.fault.BookCause.{BookCause}
use Rattle.fault.specs.declared.fault.Layer.TheVariants.{Book}
use Rattle.fault.specs.declared.fault.Fault.{Fault}

-- a fault of the book's layer
abbrev pub book_fault : BookCause → ℕ → ℕ → Fault
book_fault cause a b = record { layer = Book cause; place = (a, b) }

-- go on where the test holds, else refuse
abbrev pub require : {A : Type 0} → Bool → Fault → Result A Fault → Result A Fault
require true f next = next
require false f next = Err f

-- go on with what the first part answers
abbrev pub bind : {A B : Type 0} → Result A Fault → (A → Result B Fault) → Result B Fault
bind (Ok x) next = next x
bind (Err f) next = Err f

-- n checks in a row, the first at i, each handing on a state
abbrev pub through : {S : Type 0} → (ℕ → S → Result S Fault) → ℕ → ℕ → S → Result S Fault
through f zero i s = Ok s
through f (suc n) i s = bind (f i s) (λ t. through f n (i + 1) t)
