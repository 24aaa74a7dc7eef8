-- What is found for a query, without a hierarchy and over one.
use Rattle.std.specs.Prelude.{◌≡◌, ℕ, ◌<◌, ◌^◌, List, Option, Some, None, All, option_map}
use Rattle.mode_expression.specs.{form_of, IsUsable}
use Rattle.search_laws.specs.{GraphMeaning, LabelsMeaning}
use Rattle.product_search.specs.{Label, AreLeastLabels, IsArrival}
use Rattle.automaton.specs.{written, IsPositionAutomaton, collapsed}
use Rattle.hierarchy.specs.{HierarchyLists}
use Rattle.phase_graph.specs.{IsInUse, starts_in, ends_in}
use Rattle.mode_network.specs.{NetworkLists.NetworkLists, Route}
use Rattle.journey.specs.{Query, IsQuery, AreTheCopies, Asked, IsBest, HasNone, asked_by, IsPrintable, BoardsOnTime}
use Rattle.certificate.specs.{HasLabelTime, FitsResult, IsValid, claim_on}

-- the query was read from its line on this network
pub record IsRead (n : NetworkLists) (q : Query) : Type 0 where
  pub asks : IsQuery n q.line q.from q.to q.depart (form_of q.expr)
  pub usable : IsUsable (form_of q.expr)
  pub soon : q.depart < 2 ^ 64

-- a best journey, whose rides are boarded when they depart, or None where no journey answers
abbrev pub IsPlan : NetworkLists → Asked → Option Route → Type 0
IsPlan n q (Some j) = IsBest n q j × IsPrintable n j × BoardsOnTime n j
IsPlan n q None = HasNone n q

-- a journey that was found with its arrival, if one was
abbrev pub route_of : Option (ℕ × Route) → Option Route
route_of found = option_map (λ best. best.1) found

-- an arrival and a journey, where there are both
abbrev pub both : Option ℕ → Option Route → Option (ℕ × Route)
both (Some arrival) (Some j) = Some (arrival, j)
both _ _ = None

-- What was found for a query can be certified: a certificate of it is valid, and a text can hold it.
pub record IsCertifiable (n : NetworkLists) (h : Option HierarchyLists) (q : Query) (found : Option (ℕ × Route)) (labels : List Label) : Type 0 where
  pub valid : IsValid n h (claim_on q h found labels)
  pub asked : valid.setting.asked ≡ asked_by q
  pub result : FitsResult found
  pub labels_fit : All HasLabelTime labels

-- the labels over a graph: all product states that are reached before the least arrival, each with the least time at which it is
pub record AreLabelsOver (g : GraphMeaning) (automaton : LabelsMeaning) (starts ends : List ℕ) (depart : ℕ) (arrival : Option ℕ) (labels : List Label) : Type 0 where
  pub first : IsArrival g (collapsed automaton) starts ends depart None arrival
  pub least : AreLeastLabels g (collapsed automaton) starts depart None arrival labels

-- The labels of the search over the graph in use and the automaton of the expression. There is such a graph; and over each one, however
-- its timetable sorts the runs into patterns, these are the labels.
pub record AreTheLabels (n : NetworkLists) (h : Option HierarchyLists) (q : Asked) (labels : List Label) : Type 0 where
  pub automaton : LabelsMeaning
  pub positions : IsPositionAutomaton (written q.form) automaton
  pub origins : List ℕ
  pub targets : List ℕ
  pub origin : AreTheCopies n q.from origins
  pub destination : AreTheCopies n q.to targets
  pub graph : GraphMeaning
  pub in_use : IsInUse n h targets graph
  pub arrival : Option ℕ
  pub over : (other : GraphMeaning) → IsInUse n h targets other → AreLabelsOver other automaton (starts_in h origins) (ends_in h targets) q.depart arrival labels
