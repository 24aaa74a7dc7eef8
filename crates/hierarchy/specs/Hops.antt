-- Walks as lists of hops, over any relation that says which node leads to which at what weight.
use Rattle.std.specs.Prelude.{◌≡◌, ℕ, ◌+◌, ◌<◌, List, [], ◌∷◌, map}

pub record Hop : Type 0 where
  pub to : ℕ
  pub weight : ℕ

-- the hops lead from u to v, each over the relation
abbrev pub AreHops : (ℕ → ℕ → ℕ → Type 0) → ℕ → List Hop → ℕ → Type 0
AreHops Leads u [] v = v ≡ u
AreHops Leads u (hop ∷ hops) v = Leads u hop.to hop.weight × AreHops Leads hop.to hops v

-- what they weigh together
abbrev pub total : List Hop → ℕ
total [] = 0
total (hop ∷ hops) = hop.weight + total hops

-- P holds of each node that a hop leads to
abbrev pub AreAll : (ℕ → Type 0) → List Hop → Type 0
AreAll P [] = Unit {0}
AreAll P (hop ∷ hops) = P hop.to × AreAll P hops

-- the nodes that the walk from u stands at, in order
abbrev pub nodes_along : ℕ → List Hop → List ℕ
nodes_along u hops = u ∷ map (λ hop. hop.to) hops

-- each hop leads to a node that is higher than k
abbrev pub AreHigh : (ℕ → ℕ) → ℕ → List Hop → Type 0
AreHigh height k hops = AreAll (λ v. k < height v) hops

-- each hop from u on leads lower
abbrev pub IsDescent : (ℕ → ℕ) → ℕ → List Hop → Type 0
IsDescent height u [] = Unit {0}
IsDescent height u (hop ∷ hops) = (height hop.to < height u) × IsDescent height hop.to hops
