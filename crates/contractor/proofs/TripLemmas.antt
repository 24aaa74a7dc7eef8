-- A hierarchy rests on roads and links alone: what is contracted for a network without its trips is so for the network.
use Rattle.plan_base.proofs.Common.{ℕ, []}
use Rattle.mode_network.specs.NetworkLists.{NetworkLists}
use Rattle.hierarchy.specs.{Entry, HierarchyLists, IsFree, FitsLayer}
use Rattle.contractor.specs.{IsDistance, IsContractedTo}

module _ (n : NetworkLists) where
  -- the network without its trips
  abbrev roads_of : NetworkLists
  roads_of = record n { trips = [] }

  -- each fact names the network, and speaks of its roads and links
  free : (x : ℕ) → IsFree roads_of x → IsFree n x
  free x is = record { mode = is.mode; road = is.road; none_from = is.none_from; none_to = is.none_to }

  fits : (e : Entry) → FitsLayer roads_of e → FitsLayer n e
  fits e is = record { differ = is.differ; mode = is.mode; from_mode = is.from_mode; to_mode = is.to_mode; light = is.light }

  distance : (u v weight : ℕ) → IsDistance roads_of u v weight → IsDistance n u v weight
  distance u v weight is = record { roads = record { hops = is.roads.hops; walk = is.roads.walk; weighs = is.roads.weighs }; least = is.least }

  pub contracted_with_trips : (keep : ℕ) (h : HierarchyLists) → IsContractedTo roads_of keep h → IsContractedTo n keep h
  contracted_with_trips keep h is = record {
    sound = record {
      in_order = λ k lt. let may = is.sound.in_order k lt in (λ d. free _ (may.0 d), may.1);
      in_layers = λ k d lt. fits _ (is.sound.in_layers k d lt);
      arcs_covered = is.sound.arcs_covered;
      made = is.sound.made;
      bridged = is.sound.bridged;
    };
    core = is.core;
    distances = λ k d lt made. distance _ _ _ (is.distances k d lt made);
  }
