-- Walks as lists of hops, one after the other.
use Rattle.plan_base.proofs.Common.{◌≡◌, ℕ, ◌+◌, List, [], ◌∷◌, ◌++◌, subst, arith}
use Rattle.hierarchy.specs.{Hop, AreHops, total}

pub hops_then : (Leads : ℕ → ℕ → ℕ → Type 0) (p q : List Hop) (u m v : ℕ) → AreHops Leads u p m → AreHops Leads m q v → AreHops Leads u (p ++ q) v
hops_then Leads [] q u m v first second = subst (λ x. AreHops Leads x q v) first second
hops_then Leads (hop ∷ p) q u m v (leads, first) second = (leads, hops_then Leads p q hop.to m v first second)

pub total-append : (p q : List Hop) → total (p ++ q) ≡ total p + total q
total-append [] q = omega arith
total-append (hop ∷ p) q = omega (arith, total-append p q)

-- another relation that holds wherever the first does
pub hops_weaker : (Leads Also : ℕ → ℕ → ℕ → Type 0) → ((u v w : ℕ) → Leads u v w → Also u v w) → (p : List Hop) (u v : ℕ) → AreHops Leads u p v → AreHops Also u p v
hops_weaker Leads Also weaker [] u v walk = walk
hops_weaker Leads Also weaker (hop ∷ p) u v (leads, walk) = (weaker u hop.to hop.weight leads, hops_weaker Leads Also weaker p hop.to v walk)
