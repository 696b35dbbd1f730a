-- Flows put one after the other are the same as all of them put at once, since each takes five bytes. Assumes nothing.
use Rattle.std.proofs.Common.{◌≡◌, ℕ, suc, ◌+◌, ◌*◌, Bool, List, [], ◌∷◌, ◌++◌, length, set, filter, sym, refl, ap, ◌∙◌, subst, arith}
use Rattle.std.specs.List.{range_with_len, flat_map}
use Rattle.std.proofs.lemmas.List.Elements.{filter-append}
use Rattle.std.proofs.lemmas.List.{length-append}
use Rattle.meaning.specs.Flow.{Flow}
use Rattle.meaning.specs.FlowList.{flow_bytes, flows_bytes}
use Rattle.verdict.specs.declared.flow_buffer.FlowBuffer.{FlowBuffer}
use Rattle.verdict.specs.Puts.{placed, Put, PutInto}
use Rattle.verdict.proofs.Blocks.{joined_one}

placed-append : (xs : List ℕ) (at : ℕ) (ys zs : List ℕ) → placed xs at (ys ++ zs) ≡ placed (placed xs at ys) (at + length ys) zs
unfolding placed
placed-append xs at [] zs = let here : at ≡ at + 0 = omega arith in ap (λ a. placed xs a zs) here
placed-append xs at (y ∷ ys) zs =
    let later : at + 1 + length ys ≡ at + length (y ∷ ys) = omega arith in
    placed-append (set xs at y) (at + 1) ys zs ∙ ap (λ a. placed (placed (set xs at y) (at + 1) ys) a zs) later

bytes-append : (fs gs : List Flow) → flows_bytes (fs ++ gs) ≡ flows_bytes fs ++ flows_bytes gs
bytes-append [] gs = refl
bytes-append (f ∷ fs) gs = ap (λ l. flow_bytes f ++ l) (bytes-append fs gs)

pub bytes_length : (fs : List Flow) → length (flows_bytes fs) ≡ 5 * length fs
bytes_length [] = refl
bytes_length (f ∷ fs) = omega (arith, bytes_length fs)

none : (xs : List ℕ) (at : ℕ) → Put xs xs at at []
unfolding placed
none xs at = record { bytes = refl; ends = omega arith }

both : {xs ys zs : List ℕ} {at mid end : ℕ} {fs gs : List Flow} → Put xs ys at mid fs → Put ys zs mid end gs → Put xs zs at end (fs ++ gs)
both {xs} {ys} {zs} {at} {mid} {end} {fs} {gs} p q =
    let from : mid ≡ at + length (flows_bytes fs) = omega (arith, p.ends, bytes_length fs) in
    record {
      bytes = q.bytes ∙ (λ i. placed (p.bytes i) (from i) (flows_bytes gs)) ∙ sym (placed-append xs at (flows_bytes fs) (flows_bytes gs)) ∙ ap (placed xs at) (sym (bytes-append fs gs));
      ends = omega (arith, p.ends, q.ends, length-append fs gs);
    }

pub put_none : (x : FlowBuffer) → PutInto x x []
put_none x = record { put = none x.out.now x.at; lent = refl }

pub put_both : {x y z : FlowBuffer} {fs gs : List Flow} → PutInto x y fs → PutInto y z gs → PutInto x z (fs ++ gs)
put_both p q = record { put = both p.put q.put; lent = q.lent ∙ p.lent }

-- flows that are the same list were put as well
pub put_same : {x y : FlowBuffer} {fs gs : List Flow} → fs ≡ gs → PutInto x y fs → PutInto x y gs
put_same {x} {y} e p = subst (PutInto x y) e p

-- a buffer that is the same
pub put_at : {x y z : FlowBuffer} {fs : List Flow} → z ≡ y → PutInto x y fs → PutInto x z fs
put_at {x} {y} {z} {fs} e p = subst (λ b. PutInto x b fs) (sym e) p

-- what a filter keeps of a list, and then of another
pub put-append : (p : Flow → Bool) (fs gs : List Flow) {xs ys zs : List ℕ} {at mid end : ℕ} → Put xs ys at mid (filter p fs) → Put ys zs mid end (filter p gs) → Put xs zs at end (filter p (fs ++ gs))
put-append p fs gs {xs} {ys} {zs} {at} {mid} {end} first second = subst (Put xs zs at end) (sym (filter-append p fs gs)) (both first second)

-- the same of a buffer
pub into-append : (p : Flow → Bool) (fs gs : List Flow) {x y z : FlowBuffer} → PutInto x y (filter p fs) → PutInto y z (filter p gs) → PutInto x z (filter p (fs ++ gs))
into-append p fs gs first second = record { put = put-append p fs gs first.put second.put; lent = second.lent ∙ first.lent }

-- what it keeps of the first block of a row, and then of the others
pub put_first : (p : Flow → Bool) (f : ℕ → List Flow) (a n : ℕ) {x y z : FlowBuffer} → PutInto x y (filter p (f a)) → PutInto y z (filter p (flat_map f (range_with_len (a + 1) n))) → PutInto x z (filter p (flat_map f (range_with_len a (suc n))))
put_first p f a n first second = into-append p (f a) (flat_map f (range_with_len (a + 1) n)) first second

-- what it keeps of a row, and then of its next block
pub put_next : (p : Flow → Bool) (f : ℕ → List Flow) (n : ℕ) {x y z : FlowBuffer} → PutInto x y (filter p (flat_map f (range_with_len 0 n))) → PutInto y z (filter p (f n)) → PutInto x z (filter p (flat_map f (range_with_len 0 (n + 1))))
put_next p f n first second = put_same (ap (filter p) (joined_one f n)) (into-append p (flat_map f (range_with_len 0 n)) (f n) first second)
