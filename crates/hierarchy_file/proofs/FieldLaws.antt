-- A node that is read is the one that was written, and what was written is read again; so is the middle node of an entry.
use Rattle.plan_base.proofs.Common.{◌≡◌, ℕ, ◌^◌, ◌<◌, Bool, true, false, cond, ltb, eqb, List, ◌++◌, Some, None, refl, ap, subst, arith, Option, IfSome, w32, ltb-true, lt-ltb, eqb-true, ne_eqb, none-some, same_Some, cond_some, option_and_then_some}
use Rattle.file_records.specs.{number_front}
use Rattle.file_records.proofs.{Steps.and_then, NumberLaws.IsBytes, NumberLaws.Takes, NumberLaws.wide32, NumberLaws.number_takes, NumberLaws.number_again}
use Rattle.hierarchy_file.specs.{node_in_bytes, middle_number, node_at, middle_of}

pub node_takes : (bytes : List ℕ) (x : ℕ × List ℕ) → IsBytes bytes → node_at bytes ≡ Some x → Takes bytes (node_in_bytes x.0) x.1 × (x.0 < 2 ^ 24)
unfolding node_at
node_takes bytes x fits e =
    option_and_then_some _ (number_front w32 bytes) x e (λ n is e.
    let taken = number_takes w32 (2 ^ 32) wide32 bytes n fits is in
    let g = cond_some (ltb n.0 (2 ^ 24)) (n.0, n.1) x e in
    subst (λ (y : ℕ × List ℕ). Takes bytes (node_in_bytes y.0) y.1 × (y.0 < 2 ^ 24)) g.1 (taken.0, ltb-true _ _ g.0))

pub node_again : (v : ℕ) (rest : List ℕ) → v < 2 ^ 24 → node_at (node_in_bytes v ++ rest) ≡ Some (v, rest)
unfolding node_at
node_again v rest lt =
    and_then (number_front w32 (node_in_bytes v ++ rest)) (λ n. cond (ltb n.0 (2 ^ 24)) (Some (n.0, n.1)) None) (v, rest) (Some (v, rest))
    (number_again w32 (2 ^ 32) wide32 v rest (omega arith))
    (ap (λ b. cond b (Some (v, rest)) None) (lt-ltb v (2 ^ 24) lt))

pub middle_takes : (n : ℕ) (via : Option ℕ) → middle_of n ≡ Some via → (n ≡ middle_number via) × IfSome via (λ m. m < 2 ^ 24)
unfolding middle_of
middle_takes n via e = by_none (eqb n 0xffffffff) refl (ltb n (2 ^ 24)) refl e
  where
    Is : Option ℕ → Type 0
    Is o = (n ≡ middle_number o) × IfSome o (λ m. m < 2 ^ 24)

    by_none : (a : Bool) → eqb n 0xffffffff ≡ a → (b : Bool) → ltb n (2 ^ 24) ≡ b → cond a (Some None) (cond b (Some (Some n)) None) ≡ Some via → (n ≡ middle_number via) × IfSome via (λ m. m < 2 ^ 24)
    by_none true at b low e = subst Is (same_Some None via e) (eqb-true n 0xffffffff at, tt)
    by_none false at true low e = subst Is (same_Some (Some n) via e) (refl, ltb-true _ _ low)
    by_none false at false low e = absurd (none-some via e)

pub middle_again : (via : Option ℕ) → IfSome via (λ m. m < 2 ^ 24) → middle_of (middle_number via) ≡ Some via
unfolding middle_of
middle_again None fits = refl
middle_again (Some m) fits = rw (ne_eqb m 0xffffffff (λ e. omega arith), lt-ltb m (2 ^ 24) fits) refl

pub middle_fits : (via : Option ℕ) → IfSome via (λ m. m < 2 ^ 24) → middle_number via < 2 ^ 32
middle_fits None fits = omega arith
middle_fits (Some m) fits = omega arith
