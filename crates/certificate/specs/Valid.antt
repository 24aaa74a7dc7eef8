-- When a certificate is valid, and what it then proves.
use Rattle.std.specs.Prelude.{◌≡◌, ℕ, ◌<◌, List, Option, Some, None, is_some, IfSome, All, option_map}
use Rattle.search_laws.specs.{time_bound, GraphMeaning, LabelsMeaning, IsLawfulLabels}
use Rattle.product_search.specs.{IsClosed}
use Rattle.automaton.specs.{written, IsPositionAutomaton, collapsed}
use Rattle.hierarchy.specs.{HierarchyLists}
use Rattle.phase_graph.specs.{IsInUse, IsSoundIfGiven, starts_in, ends_in}
use Rattle.mode_network.specs.{NetworkLists.NetworkLists, IsNetwork, Route}
use Rattle.journey.specs.{AreTheCopies, HasTimes, Asked, Asks, Answers, IsBest, HasNone}
use Rattle.certificate.specs.Certificates.{Claim}

-- What a line asks of a network, and what its labels are read over: the copies of its endpoints in order, the graph in use, and the
-- position automaton of its expression. How a timetable sorts runs into patterns is left free.
pub record Setting (n : NetworkLists) (h : Option HierarchyLists) (line : List ℕ) : Type 0 where
  pub asked : Asked
  pub asks : Asks n line asked
  pub origins : List ℕ
  pub targets : List ℕ
  pub origin : AreTheCopies n asked.from origins
  pub destination : AreTheCopies n asked.to targets
  pub graph : GraphMeaning
  pub in_use : IsInUse n h targets graph
  pub automaton : LabelsMeaning
  pub positions : IsPositionAutomaton (written asked.form) automaton
  pub lawful : IsLawfulLabels automaton

-- the journey that is claimed, if one is, answers the query and has the arrival that is claimed
abbrev pub ResultHolds : NetworkLists → Asked → Option (ℕ × Route) → Type 0
ResultHolds n asked (Some claimed) = Answers n asked claimed.1 claimed.0
ResultHolds n asked None = Unit {0}

-- the arrival that is claimed, if one is
abbrev pub claimed_arrival : Option (ℕ × Route) → Option ℕ
claimed_arrival result = option_map (λ claimed. claimed.0) result

-- the labels are closed, over the graph in use and the automaton that reads adjacent equal road letters as one
abbrev pub LabelsAreClosed : (n : NetworkLists) → (h : Option HierarchyLists) → (c : Claim) → Setting n h c.line → Type 0
LabelsAreClosed n h c s =
    IsClosed s.graph (collapsed s.automaton) (starts_in h s.origins) (ends_in h s.targets) s.asked.depart (claimed_arrival c.result) c.labels

-- The line is a query, the labels are closed, and of phases exactly where a hierarchy is given, and the result is as is claimed.
pub record IsValid (n : NetworkLists) (h : Option HierarchyLists) (c : Claim) : Type 0 where
  pub setting : Setting n h c.line
  pub phases : c.phases ≡ is_some h
  pub holds : ResultHolds n setting.asked c.result
  pub closed : LabelsAreClosed n h c setting

-- the times of a certificate are below 10 ^ 30
pub record HaveTimes (c : Claim) : Type 0 where
  pub result : IfSome c.result (λ claimed. (claimed.0 < time_bound) × HasTimes claimed.1)
  pub labels : All (λ label. label.at < time_bound) c.labels

-- the journey that is claimed is a best one and has the arrival that is claimed; or it is claimed that there is none, and no journey answers
abbrev pub IsBestResult : NetworkLists → Asked → Option (ℕ × Route) → Type 0
IsBestResult n asked (Some claimed) = (best : IsBest n asked claimed.1) × (best.arrival ≡ claimed.0)
IsBestResult n asked None = HasNone n asked

-- the line asks this, and no journey answers it better than the one that is claimed, or at all
pub record Proves (n : NetworkLists) (c : Claim) : Type 0 where
  pub asked : Asked
  pub asks : Asks n c.line asked
  pub best : IsBestResult n asked c.result

-- a certificate that is valid, whatever sound hierarchy its labels are read over, proves what it claims of the network
abbrev pub ValidProves : Type 0
ValidProves = (n : NetworkLists) → IsNetwork n → (h : Option HierarchyLists) → IsSoundIfGiven n h → (c : Claim) → IsValid n h c → Proves n c
