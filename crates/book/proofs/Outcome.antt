-- What reading gives, from the answers of its parts. Assumes nothing.
use Rattle.std.proofs.Common.{◌≡◌, ℕ, ◌+◌, ◌*◌, ◌<◌, ◌≤◌, List, length, IsErrAnd, Ok, Err, sym, refl, ap, ◌∙◌, subst, arith}
use Rattle.fault.specs.declared.fault.Fault.{Fault}
use Rattle.meaning.specs.Book.{Book}
use Rattle.meaning.specs.Bytes.{Bytes, byte_at}
use Rattle.meaning.specs.Checks.{bind, through}
use Rattle.meaning.specs.File.{encoded, book_code}
use Rattle.meaning.specs.Layout as meant
use Rattle.meaning.specs.Layout.{layout, rules_from, code_from, room}
use Rattle.meaning.specs.Parsed.{spelt}
use Rattle.meaning.specs.Reading.{Verdict, mask_checked, rule_checked, head_checked, fields_checked, expressions_checked, cells_checked, checked, reading}
use Rattle.meaning.specs.WellFormed.{WellFormed}
use Rattle.meaning.proofs.Complete.{complete}
use Rattle.meaning.proofs.CompleteFile.{layout_is, room_is}
use Rattle.meaning.proofs.Loops.{each}
use Rattle.meaning.proofs.Rows.{both, handed}
use Rattle.meaning.proofs.Sizes.{code_fits}
use Rattle.meaning.proofs.Sound.{sound}
use Rattle.meaning.proofs.SoundRules.{head_right}
use Rattle.book.specs.declared.layout.Layout.{Layout}
use Rattle.book.specs.Plan.{plan, Framed}
use Rattle.book.specs.Reads.{outcome, left, Read}

-- what lets the tables of the code hold a file
pub record Fitting (bs : List ℕ) (l : meant.Layout) : Type 0 where
  -- the layout is that of the whole file
  pub whole : l.size ≡ length bs
  -- the code has its table
  pub short : room l ≤ 20480
  -- no action has more than four slots
  pub four : (i : ℕ) → i < l.rules → (byte_at bs (rules_from l + 53 * i + 7) ≤ 4) × (byte_at bs (rules_from l + 53 * i + 8) ≤ 4)

-- a check that fails is what reading answers
pub answered : (bs : List ℕ) (f : Fault) → checked bs (layout bs) ≡ Err f → reading bs ≡ Err f
unfolding reading
answered bs f e = ap (λ r. bind r (λ _. Ok (spelt bs (layout bs)))) e

module _ {bs : List ℕ} {l : Layout} (framed : Framed bs l) where
  -- the code ends inside the file
  pub inside : code_from (plan l) + room (plan l) ≤ length bs
  inside = omega (arith, ap (λ m. m.size) framed.is)

  pub fields_refuse : (f : Fault) → fields_checked bs (plan l) ≡ Err f → reading bs ≡ Err f
  unfolding checked
  fields_refuse f e =
      let fields = ap (fields_checked bs) (sym framed.is) ∙ e in
      answered bs f (rw (framed.first, framed.counts, framed.sections, fields))

  module _ (fields : fields_checked bs (plan l) ≡ Ok tt) where
    pub expressions_refuse : (f : Fault) → expressions_checked bs (plan l) ≡ Err f → reading bs ≡ Err f
    unfolding checked
    expressions_refuse f e =
        let before = ap (fields_checked bs) (sym framed.is) ∙ fields in
        let expressions = ap (expressions_checked bs) (sym framed.is) ∙ e in
        answered bs f (rw (framed.first, framed.counts, framed.sections, before, expressions))

    -- what the rest says, once fields and expressions are right
    pub last_check : (r : Verdict) → expressions_checked bs (plan l) ≡ Ok tt → cells_checked bs (plan l) ≡ r → checked bs (layout bs) ≡ r
    unfolding checked
    last_check r e last =
        let before = ap (fields_checked bs) (sym framed.is) ∙ fields in
        let expressions = ap (expressions_checked bs) (sym framed.is) ∙ e in
        let cells = ap (cells_checked bs) (sym framed.is) ∙ last in
        rw (framed.first, framed.counts, framed.sections, before, expressions) cells

    -- no action of a rule has more than four slots
    pub few_slots : (i : ℕ) → i < l.rules → (byte_at bs (rules_from (plan l) + 53 * i + 7) ≤ 4) × (byte_at bs (rules_from (plan l) + 53 * i + 8) ≤ 4)
    unfolding fields_checked rule_checked
    few_slots i h =
        let after_masks = both (through (mask_checked bs (plan l)) l.devices 0 tt) _ tt fields in
        let rules = both (through (λ k. rule_checked bs (plan l) (rules_from (plan l) + 53 * k)) l.rules 0 0) _ tt after_masks.2 in
        let step = each (λ k. rule_checked bs (plan l) (rules_from (plan l) + 53 * k)) l.rules 0 rules.0 rules.1 i h in
        let p = rules_from (plan l) + 53 * i in
        let head = both (head_checked bs (plan l) p) _ step.1 step.2 in
        let told = head_right bs (plan l) p head.1 in
        (told.3, told.4)

    module _ (fit : Bytes bs) (expressions : expressions_checked bs (plan l) ≡ Ok tt) (cells : cells_checked bs (plan l) ≡ Ok tt) where
      pub accepted : reading bs ≡ Ok (spelt bs (plan l))
      unfolding reading
      accepted =
          ap (λ r. bind r (λ _. Ok (spelt bs (layout bs)))) (last_check (Ok tt) expressions cells) ∙ ap (λ m. Ok (spelt bs m)) (sym framed.is)

      pub formed : WellFormed (spelt bs (plan l)) × (bs ≡ encoded (spelt bs (plan l)))
      formed = sound bs (spelt bs (plan l)) fit accepted

      pub fitting : Fitting bs (plan l)
      fitting =
          let b = spelt bs (plan l) in
          let started = formed.0.2.2 in
          let long : room (plan l) ≡ length (book_code b) = ap room framed.is ∙ ap (λ x. room (layout x)) formed.1 ∙ ap room (layout_is b started) ∙ room_is b started in
          record { whole = ap (λ m. m.size) framed.is; short = omega (arith, code_fits b formed.0); four = few_slots }

      pub read_as : (before : Book) → Read bs before (spelt bs (plan l)) (Ok tt)
      read_as before =
          record {
            answer = sym (ap outcome accepted);
            holds = sym (ap (λ r. left r before) accepted);
            accepts = λ b right e. (refl, let same : reading bs ≡ Ok b = ap reading e ∙ complete b right in ap (λ r. left r before) (sym accepted ∙ same));
            encodes = λ _. formed.1;
          }

-- a refusal leaves what was there
refused_as : (bs : List ℕ) (before : Book) (f : Fault) → reading bs ≡ Err f → Read bs before before (Err f)
refused_as bs before f e =
    record {
      answer = sym (ap outcome e);
      holds = sym (ap (λ r. left r before) e);
      accepts = λ b right same. absurd (let taken : reading bs ≡ Ok b = ap reading same ∙ complete b right in let z : ◌≡◌ {A = ℕ} 0 1 = cc in omega arith);
      encodes = λ taken. absurd (let z : ◌≡◌ {A = ℕ} 0 1 = cc in omega arith);
    }

-- so does what a `?` hands on
pub refused : {bs : List ℕ} {before : Book} {f : Fault} (r : Verdict) → IsErrAnd r (λ y. y ≡ f) → reading bs ≡ Err f → Read bs before before r
refused {bs} {before} {f} r exit e = subst (Read bs before before) (sym (handed r exit)) (refused_as bs before f e)
