-- Soundness looks at roads, arcs and links alone, so a hierarchy is sound for each network of a core or for none.
use Rattle.plan_base.proofs.Common.{◌≡◌, ◌∙◌, ℕ, refl, subst, sym}
use Rattle.mode_network.specs.NetworkLists.{NetworkLists}
use Rattle.hierarchy.specs.{Entry, HierarchyLists, IsFree, FitsLayer, IsSound}
use Rattle.cores.specs.{IsCoreOf, IsSoundOnCore}

module _ (n m : NetworkLists) where
  -- another network with the same roads, arcs and links
  abbrev other : NetworkLists
  other = record m { roads = n.roads; arcs = n.arcs; links = n.links }

  free : (x : ℕ) → IsFree n x → IsFree other x
  free x is = record { mode = is.mode; road = is.road; none_from = is.none_from; none_to = is.none_to }

  fits : (e : Entry) → FitsLayer n e → FitsLayer other e
  fits e is = record { differ = is.differ; mode = is.mode; from_mode = is.from_mode; to_mode = is.to_mode; light = is.light }

  sound_for_other : (h : HierarchyLists) → IsSound n h → IsSound other h
  sound_for_other h is = record {
    in_order = λ k lt. let may = is.in_order k lt in (λ d. free _ (may.0 d), may.1);
    in_layers = λ k d lt. fits _ (is.in_layers k d lt);
    arcs_covered = is.arcs_covered;
    made = is.made;
    bridged = is.bridged;
  }

-- what is sound on a core is sound for each network of it
pub sound_on : (n : NetworkLists) (h k : HierarchyLists) (network : NetworkLists) → IsCoreOf n h network → IsSoundOnCore n h k → IsSound network k
sound_on n h k network core is =
    let one = is.core in
    subst (λ (m : NetworkLists). IsSound m k) (same_parts (core.roads ∙ sym one.roads) (core.arcs ∙ sym one.arcs) (core.links ∙ sym one.links)) (sound_for_other is.network network k is.sound)
  where
    same_parts : network.roads ≡ is.network.roads → network.arcs ≡ is.network.arcs → network.links ≡ is.network.links → other is.network network ≡ network
    same_parts roads arcs links = rw (sym roads, sym arcs, sym links) refl
