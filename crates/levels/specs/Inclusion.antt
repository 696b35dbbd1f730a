-- Inclusion of sets is an order, and what two sets have in common is their meet. Assumes nothing.
use Rattle.std.proofs.Common.{◌≡◌, ℕ, ◌^◌, ◌<◌, ◌≤◌, true, ltb, ap, ◌∙◌, arith, pow_pos, pow_mono}
use lib.Bits.{bit_and}
use Rattle.std.proofs.lemmas.Nat.{and_le_l}
use Rattle.std.proofs.lemmas.Bool.{and_parts, and_from, ltb-true, lt-ltb, eqb-true, eq-eqb, cond-true, cond-false}
use Rattle.levels.specs.Orders.{both_inside, sets, sets_meets}
use Rattle.meaning.specs.Levels.{Lawful, Meeting}
use Rattle.meaning.proofs.Masks.{and_self, and_left, and_right, and_greatest, within_trans, within_antisym}

module _ (c : ℕ) where
  -- a set that is at or below another: both are levels, and all its members are the other's
  record Included (a b : ℕ) : Type 0 where
    low : a < 2 ^ c
    high : b < 2 ^ c
    all : bit_and a b ≡ a

  told : (a b : ℕ) → (sets c).below a b ≡ true → Included a b
  told a b e =
      let parts = and_parts (both_inside (2 ^ c) a b) _ e in
      let inside = and_parts (ltb a (2 ^ c)) _ parts.0 in
      record { low = ltb-true _ _ inside.0; high = ltb-true _ _ inside.1; all = eqb-true _ _ parts.1 }

  tells : (a b : ℕ) → Included a b → (sets c).below a b ≡ true
  tells a b h = and_from _ _ (and_from _ _ (lt-ltb _ _ h.low) (lt-ltb _ _ h.high)) (eq-eqb _ _ h.all)

  pub sets_lawful : c ≤ 4 → Lawful (sets c)
  sets_lawful few =
      record {
        some = pow_pos c;
        few = pow_mono few;
        left_inside = λ a b e. (told a b e).low;
        right_inside = λ a b e. (told a b e).high;
        reflexive = λ a h. tells a a (record { low = h; high = h; all = and_self a });
        transitive = λ a b d e f. let p = told a b e in let q = told b d f in tells a d (record { low = p.low; high = q.high; all = within_trans a b d p.all q.all });
        antisymmetric = λ a b e f. within_antisym a b (told a b e).all (told b a f).all;
      }

  met : (a b : ℕ) → a < 2 ^ c → b < 2 ^ c → (sets_meets c).meet a b ≡ bit_and a b
  met a b low high = cond-true _ _ _ (and_from _ _ (lt-ltb _ _ low) (lt-ltb _ _ high))

  pub sets_meeting : Meeting (sets c) (sets_meets c)
  sets_meeting =
      record {
        at_left = λ a b low high. ap (λ x. (sets c).below x a) (met a b low high) ∙ tells _ a (record { low = omega (arith, and_le_l a b); high = low; all = and_left a b });
        at_right = λ a b low high. ap (λ x. (sets c).below x b) (met a b low high) ∙ tells _ b (record { low = omega (arith, and_le_l a b); high = high; all = and_right a b });
        greatest = λ a b d e f. let p = told d a e in let q = told d b f in ap ((sets c).below d) (met a b p.high q.high) ∙ tells d _ (record { low = p.low; high = omega (arith, p.high, and_le_l a b); all = and_greatest a b d p.all q.all });
        outside = λ a b e. cond-false _ _ _ e;
      }
