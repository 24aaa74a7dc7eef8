-- Entries keep the roads' distances between core nodes.
use Rattle.plan_base.proofs.Common.{◌≡◌, ℕ, ◌<◌, ◌≤◌, ◌⊎◌, inl, inr, List, [], ◌∷◌, ◌++◌, length, refl, sym, subst, arith, All-contains}
use Rattle.mode_network.specs.{NetworkLists.NetworkLists, Leads}
use Rattle.hierarchy.specs.{Hop, AreHops, AreAll, total, IsDescent, HierarchyLists, height_in, IsCore, HasEntry, IsSound, IsCovered, HasCoreWalk, HasRoads, CoresKeepDistances, EntriesAreRoads}
use Rattle.hierarchy.proofs.{HopLemmas.hops_then, HopLemmas.total-append, HeightLemmas.height_most, Shapes.IsShaped, SoundLemmas.shaped, RoadLemmas.roads_under}

-- a walk over other entries, no heavier
pub record IsLighter (h : HierarchyLists) (u v limit : ℕ) : Type 0 where
  pub hops : List Hop
  pub walk : AreHops (HasEntry h.entries) u hops v
  pub within : total hops ≤ limit

module _ (n : NetworkLists) (h : HierarchyLists) (sound : IsSound n h) where
  -- an entry in place of each road
  covered : (roads : List Hop) (u v : ℕ) → AreHops (Leads n.arcs) u roads v → IsLighter h u v (total roads)
  covered [] u v walk = record { hops = []; walk = walk; within = omega arith }
  covered (hop ∷ roads) u v (leads, walk) =
      let c = All-contains (IsCovered h) n.arcs (record { from = u; to = hop.to; ms = hop.weight }) sound.arcs_covered leads in
      let more = covered roads hop.to v walk in
      let lighter = c.2 in
      record { hops = record { to = hop.to; weight = c.0 } ∷ more.hops; walk = (c.1, more.walk); within = (let le = more.within in omega arith) }

  descent_ends_lower : (hop : Hop) (hops : List Hop) (u v : ℕ) → AreHops (HasEntry h.entries) u (hop ∷ hops) v → IsDescent (height_in h.order) u (hop ∷ hops) → height_in h.order v < height_in h.order u
  descent_ends_lower hop [] u v (entry, walk) (lower, falls) = subst (λ x. height_in h.order x < height_in h.order u) (sym walk) lower
  descent_ends_lower hop (next ∷ hops) u v (entry, walk) (lower, falls) = let onward = descent_ends_lower next hops hop.to v walk falls in omega arith

  -- between core nodes a walk of this shape stays in the core
  stays_core : (hops : List Hop) (u v : ℕ) → AreHops (HasEntry h.entries) u hops v → IsShaped (height_in h.order) (length h.order) u hops → IsCore h.order u → IsCore h.order v → AreAll (IsCore h.order) hops
  stays_core [] u v walk shape core end = tt
  stays_core (hop ∷ hops) u v (entry, walk) shape core end = by_shape shape (λ there onward. stays_core hops hop.to v walk onward there end)
    where
      by_shape : ((height_in h.order u < height_in h.order hop.to) × IsShaped (height_in h.order) (length h.order) hop.to hops)
          ⊎ ((height_in h.order u ≡ length h.order) × (height_in h.order hop.to ≡ length h.order) × IsShaped (height_in h.order) (length h.order) hop.to hops)
          ⊎ IsDescent (height_in h.order) u (hop ∷ hops)
          → (IsCore h.order hop.to → IsShaped (height_in h.order) (length h.order) hop.to hops → AreAll (IsCore h.order) hops) → AreAll (IsCore h.order) (hop ∷ hops)
      by_shape (inl (up, onward)) next = let most = height_most h.order hop.to in absurd (omega arith)
      by_shape (inr (inl (here, there, onward))) next = (there, next there onward)
      by_shape (inr (inr falls)) next = let low = descent_ends_lower hop hops u v (entry, walk) falls in absurd (omega arith)

  pub core_walk : (u v : ℕ) (roads : List Hop) → IsCore h.order u → IsCore h.order v → AreHops (Leads n.arcs) u roads v → HasCoreWalk h u v (total roads)
  core_walk u v roads core end walk =
      let c = covered roads u v walk in
      let s = shaped n h sound c.hops u v c.walk in
      record {
        hops = s.hops;
        walk = s.walk;
        core = stays_core s.hops u v s.walk s.shaped core end;
        within = (let first = c.within in let second = s.no_heavier in omega arith);
      }

  pub roads_of : (hops : List Hop) (u v : ℕ) → AreHops (HasEntry h.entries) u hops v → HasRoads n u v (total hops)
  roads_of [] u v walk = record { hops = []; walk = walk; weighs = refl }
  roads_of (hop ∷ hops) u v (entry, walk) =
      let first = roads_under n h sound u hop.to hop.weight entry in
      let more = roads_of hops hop.to v walk in
      record {
        hops = first.hops ++ more.hops;
        walk = hops_then (Leads n.arcs) first.hops more.hops u hop.to v first.walk more.walk;
        weighs = omega (arith, total-append first.hops more.hops, first.weighs, more.weighs);
      }

pub cores_keep_distances : CoresKeepDistances
cores_keep_distances n h sound = core_walk n h sound

pub entries_are_roads : EntriesAreRoads
entries_are_roads n h sound u v hops walk = roads_of n h sound hops u v walk
