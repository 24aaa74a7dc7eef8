-- Heights in an order, and the table of them.
use Rattle.plan_base.proofs.Common.{◌≡◌, ℕ, ◌+◌, ◌<◌, ◌≤◌, suc, zero, nat_eq, Bool, true, false, cond, List, [], ◌∷◌, length, drop, get_or, refl, ap, arith, All, eqb-true, eq-eqb, ne_eqb, All-head, All-tail}
use Rattle.hierarchy.specs.{height_in}

-- no node is higher than the order is long
pub height_most : (order : List ℕ) (v : ℕ) → height_in order v ≤ length order
height_most [] v = omega arith
height_most (x ∷ order) v = by_test (nat_eq x v) (height_most order v) where
  by_test : (b : Bool) → height_in order v ≤ length order → cond b 0 (suc (height_in order v)) ≤ suc (length order)
  by_test true h = omega arith
  by_test false h = omega arith

-- a node past all that are in the order is core
pub height_past : (order : List ℕ) (v nodes : ℕ) → All (λ x. x < nodes) order → nodes ≤ v → height_in order v ≡ length order
height_past [] v nodes below past = refl
height_past (x ∷ order) v nodes below past =
    let differ : nat_eq x v ≡ false = ne_eqb x v (λ e. omega (arith, All-head (λ y. y < nodes) x order below)) in
    rw differ (ap suc (height_past order v nodes (All-tail (λ y. y < nodes) x order below) past))

-- a node stands first at its height
pub height_least : (order : List ℕ) (v j d : ℕ) → j < length order → get_or order j d ≡ v → height_in order v ≤ j
height_least [] v j d lt is = absurd (omega arith)
height_least (x ∷ order) v zero d lt is = rw (eq-eqb x v is) (omega arith)
height_least (x ∷ order) v (suc j) d lt is = by_test (nat_eq x v) (height_least order v j d (omega arith) is) where
  by_test : (b : Bool) → height_in order v ≤ j → cond b 0 (suc (height_in order v)) ≤ suc j
  by_test true le = omega arith
  by_test false le = omega arith

pub height_is : (order : List ℕ) (v d : ℕ) → height_in order v < length order → get_or order (height_in order v) d ≡ v
height_is [] v d lt = absurd (omega arith)
height_is (x ∷ order) v d lt = by_test (nat_eq x v) refl lt (height_is order v d) where
  by_test : (b : Bool) → nat_eq x v ≡ b → cond b 0 (suc (height_in order v)) < suc (length order) → (height_in order v < length order → get_or order (height_in order v) d ≡ v)
      → get_or (x ∷ order) (cond b 0 (suc (height_in order v))) d ≡ v
  by_test true e h next = eqb-true x v e
  by_test false e h next = next (omega arith)

-- ---- the table, filled from the order's end

-- the heights in what is left of the order from place k on
abbrev pub AreHeightsFrom : ℕ → List ℕ → ℕ → List ℕ → Type 0
AreHeightsFrom nodes order k heights = (v d : ℕ) → v < nodes → get_or heights v d ≡ k + height_in (drop k order) v
