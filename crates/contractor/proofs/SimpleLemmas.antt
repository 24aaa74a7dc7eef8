-- Walks without a node twice, and how long roads between two nodes can take at least.
use Rattle.plan_base.proofs.Common.{◌≡◌, ℕ, ◌*◌, ◌<◌, ◌≤◌, ◌^◌, ◌⊎◌, inl, inr, Bool, true, false, nat_eq, List, [], ◌∷◌, length, refl, sym, subst, arith, list_any, AllByRecursion, false≢true, eqb-true, or_parts, length-map, All-contains, IsDistinct-cons, IsDistinct-tail}
use Rattle.std.specs.List.{IsDistinct}
use Rattle.std.proofs.lemmas.Bool.{or_cases}
use Rattle.std.proofs.lemmas.Map.Steps.{length-le_from_distinct_below}
use Rattle.mode_network.specs.{Arc, Leads, IsNetwork, NetworkLists.NetworkLists}
use Rattle.mode_network.proofs.RuleLemmas.{arcs_in_range, nodes_hold_roads}
use Rattle.hierarchy.specs.{Hop, AreHops, total}
use Rattle.hierarchy.specs.Hops as hops

abbrev stops : ℕ → List Hop → List ℕ
stops u p = hops.nodes_along u p

apart_from_none : (u : ℕ) (ns : List ℕ) → list_any (nat_eq u) ns ≡ false → AllByRecursion (λ y. nat_eq u y ≡ false) ns
apart_from_none u [] none = tt
apart_from_none u (y ∷ ns) none = let parts = or_parts (nat_eq u y) (list_any (nat_eq u) ns) none in (parts.0, apart_from_none u ns parts.1)

none_twice : IsDistinct nat_eq []
unfolding IsDistinct
none_twice = tt

module _ (L : ℕ → ℕ → ℕ → Type 0) where
  -- a walk without a node twice
  pub record IsSimple (u v limit : ℕ) : Type 0 where
    pub hops : List Hop
    pub walk : AreHops L u hops v
    pub within : total hops ≤ limit
    pub distinct : IsDistinct nat_eq (stops u hops)

  -- the rest of it from a node that it stands at
  rest : (q : List Hop) (a u v : ℕ) → AreHops L a q v → IsDistinct nat_eq (stops a q) → list_any (nat_eq u) (stops a q) ≡ true → IsSimple u v (total q)
  rest [] a u v walk distinct there = by_test (or_cases (nat_eq u a) false there) where
    by_test : (nat_eq u a ≡ true) ⊎ (false ≡ true) → IsSimple u v 0
    by_test (inl here) = subst (λ b. IsSimple b v 0) (sym (eqb-true u a here)) (record { hops = []; walk = walk; within = omega arith; distinct = distinct })
    by_test (inr never) = absurd (false≢true never)
  rest (hop ∷ q) a u v (leads, walk) distinct there = by_test (or_cases (nat_eq u a) (list_any (nat_eq u) (stops hop.to q)) there) (rest q hop.to u v walk (IsDistinct-tail nat_eq a (stops hop.to q) distinct)) where
    by_test : (nat_eq u a ≡ true) ⊎ (list_any (nat_eq u) (stops hop.to q) ≡ true) → (list_any (nat_eq u) (stops hop.to q) ≡ true → IsSimple u v (total q)) → IsSimple u v (total (hop ∷ q))
    by_test (inl here) onward = subst (λ b. IsSimple b v (total (hop ∷ q))) (sym (eqb-true u a here)) (record { hops = hop ∷ q; walk = (leads, walk); within = omega arith; distinct = distinct })
    by_test (inr later) onward = let s = onward later in record { hops = s.hops; walk = s.walk; within = (let le = s.within in omega arith); distinct = s.distinct }

  -- one hop more at the front: where it leads back to a node of the walk, the rest from there
  add : (hop : Hop) (p : List Hop) (u v : ℕ) → L u hop.to hop.weight → IsSimple hop.to v (total p) → IsSimple u v (total (hop ∷ p))
  add hop p u v leads s = by_test (list_any (nat_eq u) (stops hop.to s.hops)) refl where
    by_test : (b : Bool) → list_any (nat_eq u) (stops hop.to s.hops) ≡ b → IsSimple u v (total (hop ∷ p))
    by_test true there = let r = rest s.hops hop.to u v s.walk s.distinct there in record { hops = r.hops; walk = r.walk; within = (let first = r.within in let second = s.within in omega arith); distinct = r.distinct }
    by_test false none = record {
      hops = hop ∷ s.hops;
      walk = (leads, s.walk);
      within = (let le = s.within in omega arith);
      distinct = IsDistinct-cons nat_eq u (stops hop.to s.hops) (apart_from_none u (stops hop.to s.hops) none) s.distinct;
    }

  pub simple : (p : List Hop) (u v : ℕ) → AreHops L u p v → IsSimple u v (total p)
  simple [] u v walk = record { hops = []; walk = walk; within = omega arith; distinct = IsDistinct-cons nat_eq u [] tt none_twice }
  simple (hop ∷ p) u v (leads, walk) = add hop p u v leads (simple p hop.to v walk)

-- ---- over the roads of a network

module _ (n : NetworkLists) (network : IsNetwork n) where
  pub record IsRoad (u v w : ℕ) : Type 0 where
    pub from : u < 2 ^ 24
    pub to : v < 2 ^ 24
    pub positive : 0 < w
    pub light : w < 2 ^ 32

  pub road : (u v w : ℕ) → Leads n.arcs u v w → IsRoad u v w
  road u v w leads =
      let arc : Arc = record { from = u; to = v; ms = w } in
      let inside = All-contains (λ (a : Arc). (a.from < length n.roads) × (a.to < length n.roads)) n.arcs arc (arcs_in_range n network) leads in
      let hold = nodes_hold_roads n network in
      let few = network.few_nodes in
      record {
        from = omega arith;
        to = omega arith;
        positive = All-contains (λ (a : Arc). 0 < a.ms) n.arcs arc network.parts.arcs_last leads;
        light = All-contains (λ (a : Arc). a.ms < 2 ^ 32) n.arcs arc network.arcs_fit leads;
      }

  total_most : (p : List Hop) (u v : ℕ) → AreHops (Leads n.arcs) u p v → total p ≤ 4294967295 * length p
  total_most [] u v walk = omega arith
  total_most (hop ∷ p) u v (leads, walk) = let r = road u hop.to hop.weight leads in let light = r.light in omega (arith, total_most p hop.to v walk)

  all_below : (p : List Hop) (u v : ℕ) → u < 2 ^ 24 → AreHops (Leads n.arcs) u p v → (q : ℕ) → list_any (nat_eq q) (stops u p) ≡ true → q < 2 ^ 24
  all_below [] u v low walk q there = elim (or_cases (nat_eq q u) false there) [
    | inl here ↦ (let same = eqb-true q u here in omega arith)
    | inr never ↦ absurd (false≢true never)
  ]
  all_below (hop ∷ p) u v low (leads, walk) q there = by_test (or_cases (nat_eq q u) (list_any (nat_eq q) (stops hop.to p)) there) (all_below p hop.to v (road u hop.to hop.weight leads).to walk q) where
    by_test : (nat_eq q u ≡ true) ⊎ (list_any (nat_eq q) (stops hop.to p) ≡ true) → (list_any (nat_eq q) (stops hop.to p) ≡ true → q < 2 ^ 24) → q < 2 ^ 24
    by_test (inl here) onward = let same = eqb-true q u here in omega arith
    by_test (inr later) onward = onward later

  -- what is no more than any roads take, is less than 2 ^ 56
  pub least_is_light : (p : List Hop) (u v s : ℕ) → u < 2 ^ 24 → AreHops (Leads n.arcs) u p v → ((roads : List Hop) → AreHops (Leads n.arcs) u roads v → s ≤ total roads) → s < 2 ^ 56
  least_is_light p u v s low walk least =
      let q = simple (Leads n.arcs) p u v walk in
      let few = length-le_from_distinct_below (stops u q.hops) (2 ^ 24) q.distinct (all_below q.hops u v low q.walk) in
      let most = total_most q.hops u v q.walk in
      let le = least q.hops q.walk in
      omega (arith, few, length-map q.hops (λ (hop : Hop). hop.to))
