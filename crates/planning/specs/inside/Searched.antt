-- What a search for a query goes over, and the journey under the walk that it finds.
use Rattle.std.specs.Prelude.{◌≡◌, ℕ, List, Option, Some, None, All}
use Rattle.mode_expression.specs.{form_of}
use Rattle.search_laws.specs.{GraphMeaning, LabelsMeaning, IsLawfulLabels}
use Rattle.product_search.specs.{Walk}
use Rattle.unpack.specs.{AreHopsIn, IsSoon, node_after, arrival_after, IsUnpacked, letters_in}
use Rattle.automaton.specs.{written, IsPositionAutomaton, collapsed}
use Rattle.hierarchy.specs.{HierarchyLists}
use Rattle.phase_graph.specs.{IsInUse, IsSoundIfGiven, starts_in, ends_in, node_under}
use Rattle.mode_network.specs.{NetworkLists.NetworkLists, Route}
use Rattle.journey.specs.{Query, AreTheCopies}
use Rattle.certificate.specs.{AreDenoted}

-- What a search for a query goes over: the graph in use, from the starts to the ends, and an automaton of the expression.
pub record IsSearchSpace (n : NetworkLists) (h : Option HierarchyLists) (q : Query) (g : GraphMeaning) (l : LabelsMeaning) (starts ends : List ℕ) : Type 0 where
  pub sound : IsSoundIfGiven n h
  pub origins : List ℕ
  pub targets : List ℕ
  pub origin : AreTheCopies n q.from origins
  pub destination : AreTheCopies n q.to targets
  pub in_use : IsInUse n h targets g
  pub starts_are : starts ≡ starts_in h origins
  pub ends_are : ends ≡ ends_in h targets
  pub positions : IsPositionAutomaton (written (form_of q.expr)) l
  pub denotes : AreDenoted (form_of q.expr) (collapsed l)
  pub lawful : IsLawfulLabels l

-- a walk that was found, if there is one, is one of the graph
abbrev pub IsWalkOf : GraphMeaning → Option Walk → Type 0
IsWalkOf g None = Unit {0}
IsWalkOf g (Some walk) = AreHopsIn g walk.node walk.at walk.hops.items

-- the journey is the one under the walk: it starts where the walk does, and is unpacked from its hops
pub record LiesUnder (n : NetworkLists) (h : Option HierarchyLists) (g : GraphMeaning) (walk : Walk) (j : Route) : Type 0 where
  pub start : j.start ≡ node_under h walk.node
  pub at : j.at ≡ walk.at
  pub unpacked : IsUnpacked n j.start j.at j.steps (node_under h (node_after walk.node walk.hops.items)) (arrival_after walk.at walk.hops.items) (letters_in g walk.node walk.hops.items)
  pub soon : All IsSoon j.steps

-- the journey under a walk, if there is one
abbrev pub IsJourneyUnder : NetworkLists → Option HierarchyLists → GraphMeaning → Option Walk → Option Route → Type 0
IsJourneyUnder n h g None None = Unit {0}
IsJourneyUnder n h g None (Some j) = ⊥
IsJourneyUnder n h g (Some walk) None = ⊥
IsJourneyUnder n h g (Some walk) (Some j) = LiesUnder n h g walk j
