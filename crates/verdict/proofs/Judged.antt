-- What the list and the look at a book give, from what was put and tested. Assumes nothing.
use Rattle.std.proofs.Common.{◌≡◌, ℕ, zero, suc, ◌+◌, ◌*◌, ◌<◌, ◌≤◌, Bool, true, false, ltb, leb, List, [], ◌∷◌, ◌++◌, length, get_or, drop, is_ok, is_err, Ok, Err, sym, refl, ap, ◌∙◌, arith}
use Rattle.std.proofs.lemmas.Bool.{le-leb, lt-leb, lt-ltb, and_from, true≢false, false≢true}
use Rattle.fault.specs.declared.fault.CallCause.TheVariants.{Buffer}
use Rattle.fault.specs.declared.fault.OrderCause.TheVariants as cause
use Rattle.fault.specs.declared.fault.Layer.TheVariants as layer
use Rattle.fault.specs.declared.fault.Fault.{Fault}
use Rattle.meaning.specs.Book.{Book, resources, smallest}
use Rattle.meaning.specs.Checks.{require, bind, through}
use Rattle.meaning.specs.Flow.{Flow, level, levelled}
use Rattle.meaning.specs.FlowList.{flow_list, flows_bytes}
use Rattle.meaning.specs.Levels.{Order}
use Rattle.meaning.specs.Reading.{Verdict}
use Rattle.meaning.specs.WellFormed.{every}
use Rattle.meaning.proofs.Listed.{listed, sound_empty, empty_sound}
use Rattle.meaning.proofs.Loops.{each, every_at}
use Rattle.meaning.proofs.Rows.{passed, both}
use Rattle.verdict.specs.Puts.{placed, Put}
use Rattle.verdict.specs.Verdicts.{level_checked, levels_checked, flowless, judged, is_sound, Listing, Judgement}
use Rattle.verdict.proofs.Buffers.{placed_inside, placed_past}
use Rattle.verdict.proofs.Putting.{bytes_length}

module _ (o : Order) (b : Book) (few : length b.rules ≤ 32) where
  pub levels_refuse : (xs : List ℕ) (f : Fault) → levels_checked o b ≡ Err f → Listing o b xs xs (Err f)
  levels_refuse xs f e =
      record {
        flows = flow_list o b;
        lists = listed o b few;
        answer = sym (ap (λ r. bind r (λ _. require (leb (5 * length (flow_list o b)) (length xs)) (record { layer = layer.Call Buffer; place = (5 * length (flow_list o b), length xs) }) (Ok (5 * length (flow_list o b))))) e);
        bytes = refl;
      }

  module _ (known : levels_checked o b ≡ Ok tt) where
    after_levels : (xs : List ℕ) (t : Bool) → leb (5 * length (flow_list o b)) (length xs) ≡ t → bind (levels_checked o b) (λ _. require (leb (5 * length (flow_list o b)) (length xs)) (record { layer = layer.Call Buffer; place = (5 * length (flow_list o b), length xs) }) (Ok (5 * length (flow_list o b)))) ≡ require t (record { layer = layer.Call Buffer; place = (5 * length (flow_list o b), length xs) }) (Ok (5 * length (flow_list o b)))
    after_levels xs t e =
        λ i. bind (known i) (λ _. require (e i) (record { layer = layer.Call Buffer; place = (5 * length (flow_list o b), length xs) }) (Ok (5 * length (flow_list o b))))

    pub length_refuses : (xs : List ℕ) → length xs < 5 * length (flow_list o b) → Listing o b xs xs (Err (record { layer = layer.Call Buffer; place = (5 * length (flow_list o b), length xs) }))
    length_refuses xs short =
        record { flows = flow_list o b; lists = listed o b few; answer = sym (after_levels xs false (lt-leb _ _ short)); bytes = refl }

    pub writes : (xs ys : List ℕ) → 5 * length (flow_list o b) ≤ length xs → ys ≡ placed xs 0 (flows_bytes (flow_list o b)) → Listing o b xs ys (Ok (5 * length (flow_list o b)))
    writes xs ys fits put =
        let long = bytes_length (flow_list o b) in
        let place : 0 + length (flows_bytes (flow_list o b)) ≡ 5 * length (flow_list o b) = omega arith in
        record {
          flows = flow_list o b;
          lists = listed o b few;
          answer = sym (after_levels xs true (le-leb _ _ fits));
          bytes = put ∙ placed_inside xs 0 (flows_bytes (flow_list o b)) (omega arith) ∙ ap (λ n. flows_bytes (flow_list o b) ++ drop n xs) place;
        }

-- the first of the flows that were put into five bytes
pub first_flow : (fs : List Flow) (ys : List ℕ) (n : ℕ) → Put (0 ∷ 0 ∷ 0 ∷ 0 ∷ 0 ∷ []) ys 0 n fs → 0 < n → flowless fs ≡ Err (record { layer = layer.Order cause.Flow; place = (get_or ys 0 0, get_or ys 2 0) })
unfolding placed
first_flow [] ys n put some = absurd (omega (arith, put.ends))
first_flow (f ∷ fs) ys n put some =
    let kept = put.bytes ∙ placed_past (f.rule ∷ f.part ∷ f.kind ∷ f.target ∷ f.source ∷ []) 5 (flows_bytes fs) (omega arith) in
    λ i. Err (record { layer = layer.Order cause.Flow; place = (get_or (sym kept i) 0 0, get_or (sym kept i) 2 0) })

pub no_flow : (fs : List Flow) (xs ys : List ℕ) (n : ℕ) → Put xs ys 0 n fs → n ≤ 0 → flowless fs ≡ Ok tt
no_flow [] xs ys n put none = refl
no_flow (f ∷ fs) xs ys n put none = absurd (omega (arith, put.ends))

every_from : (p : ℕ → Bool) (xs : List ℕ) → ((i : ℕ) → i < length xs → p (get_or xs i 0) ≡ true) → every p xs ≡ true
unfolding every
every_from p [] h = refl
every_from p (x ∷ xs) h = and_from (p x) _ (h 0 (omega arith)) (every_from p xs (λ i lt. h (suc i) (omega arith)))

passes : (f : ℕ → Unit {0} → Verdict) (n a : ℕ) → ((i : ℕ) → i < a + n → f i tt ≡ Ok tt) → through f n a tt ≡ Ok tt
passes f zero a each = refl
passes f (suc n) a each =
    ap (λ r. bind r (λ t. through f n (a + 1) t)) (each a (omega arith)) ∙ passes f n (a + 1) (λ i h. each i (omega arith))

-- the levels are those of the order exactly where the test of each goes through
pub levels_known : (o : Order) (b : Book) → levels_checked o b ≡ Ok tt → levelled o b ≡ true
unfolding levels_checked
levels_known o b e =
    every_from (λ l. ltb l o.count) b.levels (λ i lt. (passed _ _ (Ok tt) tt (each (level_checked o b) (resources b) tt tt e i lt).2).0)

pub known_levels : (o : Order) (b : Book) → levelled o b ≡ true → levels_checked o b ≡ Ok tt
unfolding levels_checked
known_levels o b e =
    passes (level_checked o b) (resources b) 0 (λ i lt. ap (λ t. require t (record { layer = layer.Order cause.Level; place = (i, level b i) }) (Ok tt)) (every_at (λ l. ltb l o.count) b.levels i 0 e (omega arith)))

flowless_empty : (fs : List Flow) → flowless fs ≡ Ok tt → length fs ≡ 0
flowless_empty [] e = refl
flowless_empty (f ∷ fs) e = absurd (let z : ◌≡◌ {A = ℕ} 0 1 = cc in omega arith)

-- a book that was judged without refusal has no flow
pub judged_empty : (o : Order) (b : Book) → judged o b ≡ Ok tt → length (flow_list o b) ≡ 0
judged_empty o b e = flowless_empty (flow_list o b) (both (levels_checked o b) _ tt e).2

pub judged_levels : (o : Order) (b : Book) → judged o b ≡ Ok tt → levelled o b ≡ true
judged_levels o b e = levels_known o b (both (levels_checked o b) _ tt e).1

pub judgement : (o : Order) (b : Book) (r : Verdict) → length b.rules ≤ 32 → r ≡ judged o b → Judgement o b r
judgement o b r few e =
    record {
      answer = e;
      accepts = λ levels sound. e ∙ ap (λ v. bind v (λ _. flowless (flow_list o b))) (known_levels o b levels) ∙ ap flowless (empty_sound o b few sound);
      levels = λ ok. judged_levels o b (sym e ∙ ok);
      sound = λ ok. sound_empty o b few (judged_empty o b (sym e ∙ ok));
    }

-- the smallest book is accepted under every order that has a level
pub smallest_levelled : (o : Order) → 1 ≤ o.count → levelled o smallest ≡ true
unfolding every
smallest_levelled o some = and_from (ltb 0 o.count) true (lt-ltb 0 o.count some) refl

pub smallest_sound : (o : Order) → is_sound o smallest ≡ true
unfolding flow_list
smallest_sound o = refl

-- an answer that is no refusal is the only other one
pub not_refused : (r : Verdict) → is_err r ≡ false → r ≡ Ok tt
not_refused (Ok u) e = refl
not_refused (Err f) e = absurd (true≢false e)

pub refused : (r : Verdict) → is_err r ≡ true → is_ok r ≡ false
refused (Ok u) e = absurd (false≢true e)
refused (Err f) e = refl
