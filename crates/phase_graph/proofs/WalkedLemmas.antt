-- A phase graph keeps the journeys to its targets.
use Rattle.plan_base.proofs.Common.{ℕ, false, List}
use Rattle.search_laws.specs.{GraphMeaning, word_from}
use Rattle.mode_network.specs.{NetworkLists.NetworkLists, IsNetwork}
use Rattle.hierarchy.specs.{HierarchyLists, IsSound}
use Rattle.phase_graph.specs.{phase_node, IsPhaseGraph, JourneysHaveWalks, WalksHaveJourneys}
use Rattle.phase_graph.proofs.ArcLemmas.{walk_of, moves_of}
use Rattle.phase_graph.proofs.JourneyLemmas as journeys
use Rattle.phase_graph.proofs.RoadLemmas as roads

module _ (n : NetworkLists) (h : HierarchyLists) (targets : List ℕ) (network : IsNetwork n) (sound : IsSound n h) (g : GraphMeaning) (is : IsPhaseGraph n h targets g) where
  pub journeys_have_walks : JourneysHaveWalks n h targets g
  journeys_have_walks steps v t w u letters real there =
      let p = journeys.has_phase_walk n h targets network sound steps v t w u letters real there in
      record {
        down = p.down;
        at = p.at;
        letters = p.letters;
        walk = walk_of n h targets g is p.moves v false t w p.down p.at p.letters p.walk;
        at_target = p.at_target;
        no_later = p.no_later;
        same_word = p.same_word;
      }

  pub walks_have_journeys : WalksHaveJourneys n g
  walks_have_journeys steps v down t q u walk =
      let m = moves_of n h targets g is steps v down t q u walk in
      record {
        to = m.to;
        down = m.end;
        is = m.is;
        journey = roads.has_journey n h network sound targets m.moves v down t m.to m.end u (word_from g (phase_node v down) steps) m.walk;
      }
