-- A text gives one expression or one first fault.
use Rattle.plan_base.proofs.Common.{◌≡◌, ℕ, ◌^◌, ◌<◌, ◌≤◌, List, min, Bool, true, false, nat_lt, Ok, Err, refl, sym, ap, ◌∙◌, arith, nat_tests}
use Rattle.mode_expression.specs.{ExprFault, TooLong, TooDeep, Syntax, TooLarge, OutOfMemory, places, Spells, IsTooDeepAt, IsReadAs, IsExpression, IsFault, OutcomeIsUnique, Form.Form}
use Rattle.mode_expression.proofs.ReadingLemmas.{reading_is_unique}

same_form : (text : List ℕ) (a b : Form) → Spells text a → Spells text b → a ≡ b
same_form text a b p q = let x = reading_is_unique text (Ok a) p in let y = reading_is_unique text (Ok b) q in cc

spelled_is_no_fault : (text : List ℕ) (form : Form) (at : ℕ) → Spells text form → IsReadAs text (Err at) → ⊥
spelled_is_no_fault text form at p q = let x = reading_is_unique text (Ok form) p in let y = reading_is_unique text (Err at) q in cc

same_place : (text : List ℕ) (a b : ℕ) → IsReadAs text (Err a) → IsReadAs text (Err b) → a ≡ b
same_place text a b p q = let x = reading_is_unique text (Err a) p in let y = reading_is_unique text (Err b) q in cc

first_deep : (text : List ℕ) (a b : ℕ) → IsTooDeepAt text a → IsTooDeepAt text b → ((k : ℕ) → k < a → IsTooDeepAt text k → ⊥)
    → ((k : ℕ) → k < b → IsTooDeepAt text k → ⊥) → a ≡ b
first_deep text a b at_a at_b before_a before_b = by_order (nat_lt a b) (nat_lt b a) refl refl
  where
    by_order : (x y : Bool) → nat_lt a b ≡ x → nat_lt b a ≡ y → a ≡ b
    by_order true y p q = absurd (before_b a (grind (arith, nat_tests)) at_a)
    by_order false true p q = absurd (before_a b (grind (arith, nat_tests)) at_b)
    by_order false false p q = grind (arith, nat_tests)

large : (text : List ℕ) (a b : Form) (m n : ℕ) → Spells text a → Spells text b → m ≡ min (places a) (2 ^ 32) → n ≡ min (places b) (2 ^ 32) → m ≡ n
large text a b m n p q e f = e ∙ ap (λ form. min (places form) (2 ^ 32)) (same_form text a b p q) ∙ sym f

too_small : (text : List ℕ) (a b : Form) → Spells text a → Spells text b → places a ≤ 200 → 200 < places b → ⊥
too_small text a b p q small large = let e = ap places (same_form text a b p q) in omega arith

same_fault : (text : List ℕ) (a b : ExprFault) → IsFault text a → IsFault text b → a ≡ b
same_fault text (TooLong m) (TooLong n) p q = ap (λ k. TooLong k) (p.1 ∙ sym q.1)
same_fault text (TooLong m) (TooDeep n) p q = absurd (omega arith)
same_fault text (TooLong m) (Syntax n) p q = absurd (omega arith)
same_fault text (TooLong m) (TooLarge n) p q = absurd (omega arith)
same_fault text (TooDeep m) (TooLong n) p q = absurd (omega arith)
same_fault text (TooDeep m) (TooDeep n) p q = ap (λ k. TooDeep k) (first_deep text m n p.1 q.1 p.2 q.2)
same_fault text (TooDeep m) (Syntax n) p q = absurd (q.1 m p.1)
same_fault text (TooDeep m) (TooLarge n) p q = absurd (q.1 m p.1)
same_fault text (Syntax m) (TooLong n) p q = absurd (omega arith)
same_fault text (Syntax m) (TooDeep n) p q = absurd (p.1 n q.1)
same_fault text (Syntax m) (Syntax n) p q = ap (λ k. Syntax k) (same_place text m n p.2 q.2)
same_fault text (Syntax m) (TooLarge n) p q = absurd (spelled_is_no_fault text q.2.0 m q.2.1 p.2)
same_fault text (TooLarge m) (TooLong n) p q = absurd (omega arith)
same_fault text (TooLarge m) (TooDeep n) p q = absurd (p.1 n q.1)
same_fault text (TooLarge m) (Syntax n) p q = absurd (spelled_is_no_fault text p.2.0 n p.2.1 q.2)
same_fault text (TooLarge m) (TooLarge n) p q = ap (λ k. TooLarge k) (large text p.2.0 q.2.0 m n p.2.1 q.2.1 p.2.3 q.2.3)
same_fault text OutOfMemory b p q = absurd p
same_fault text a OutOfMemory p q = absurd q

no_fault : (text : List ℕ) (form : Form) (fault : ExprFault) → IsExpression text form → IsFault text fault → ⊥
no_fault text form (TooLong n) p q = let s = p.short in omega arith
no_fault text form (TooDeep n) p q = p.shallow n q.1
no_fault text form (Syntax n) p q = spelled_is_no_fault text form n p.spells q.2
no_fault text form (TooLarge n) p q = too_small text form q.2.0 p.spells q.2.1 p.small q.2.2
no_fault text form OutOfMemory p q = q

pub same_outcome : OutcomeIsUnique
same_outcome text (Ok a) (Ok b) p q = ap (λ f. Ok f) (same_form text a b p.spells q.spells)
same_outcome text (Ok a) (Err b) p q = absurd (no_fault text a b p q)
same_outcome text (Err a) (Ok b) p q = absurd (no_fault text b a q p)
same_outcome text (Err a) (Err b) p q = ap (λ f. Err f) (same_fault text a b p q)
