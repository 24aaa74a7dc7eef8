-- What is answered for a deadline: the best journey, and the labels of the search.
use Rattle.std.specs.Prelude.{ℕ, ◌-◌, ◌<◌, List, length, All, Option, Some, None}
use Rattle.search_laws.specs.{GraphMeaning, LabelsMeaning, IsLawfulLabels}
use Rattle.product_search.specs.{Label, AreLeastLabels, IsArrival}
use Rattle.automaton.specs.{written, IsPositionAutomaton, collapsed, FitsCollapsed}
use Rattle.timetable_arcs.specs.{TableLists, IsTable}
use Rattle.mode_network.specs.{NetworkLists.NetworkLists, nodes_of, IsTimetableOf, Route}
use Rattle.journey.specs.{Asked, IsPrintable, AreTheCopies}
use Rattle.latest_departure.specs.{declared.source.Source.Source, Late.IsToldLate, Late.HasNoneInTime, Late.deadline, Late.first_moment, Reversed.IsReversed, MirrorArcs.mirror_meaning, MirrorArcs.AreSources}

-- a best journey for the deadline, whose rides are boarded when they depart; or None where no journey is in time
abbrev pub IsLate : NetworkLists → Asked → Option Route → Type 0
IsLate n q (Some j) = IsToldLate n q j × IsPrintable n j
IsLate n q None = HasNoneInTime n q

-- the time before the deadline that the search looks at: back to the region's first date
abbrev pub span : NetworkLists → Asked → ℕ
span n q = deadline q - first_moment n

-- the automaton reads the words of what is asked from their ends
pub record ReadsFromEnds (q : Asked) (reversed : LabelsMeaning) : Type 0 where
  pub automaton : LabelsMeaning
  pub positions : IsPositionAutomaton (written q.form) automaton
  pub lawful : IsLawfulLabels automaton
  pub turned : IsReversed automaton reversed
  pub turned_lawful : IsLawfulLabels reversed
  pub fits : FitsCollapsed reversed

-- the nodes are the copies of the destination, where the search starts, and those of the origin
pub record AreSwappedEnds (n : NetworkLists) (q : Asked) (starts targets : List ℕ) : Type 0 where
  pub destination : AreTheCopies n q.to starts
  pub origin : AreTheCopies n q.from targets
  pub start_nodes : All (λ v. v < length (nodes_of n)) starts
  pub target_nodes : All (λ v. v < length (nodes_of n)) targets

-- What a search for a deadline goes over: the network in mirrored time, with some timetable of its trips; an automaton that reads the words of the
-- expression from their ends; and the copies of the destination, from which it goes back to those of the origin.
pub record Mirroring (n : NetworkLists) (q : Asked) : Type 0 where
  pub table : TableLists
  pub of : IsTimetableOf n table
  pub keeps : IsTable table
  pub rows : ℕ → List Source
  pub sources : AreSources n table rows
  pub reversed : LabelsMeaning
  pub reads : ReadsFromEnds q reversed
  pub starts : List ℕ
  pub targets : List ℕ
  pub ends : AreSwappedEnds n q starts targets

abbrev pub graph_of : (n : NetworkLists) (q : Asked) → Mirroring n q → GraphMeaning
graph_of n q m = mirror_meaning n m.table m.rows (deadline q)

-- it reads adjacent equal road letters as one
abbrev pub labels_of : (n : NetworkLists) (q : Asked) → Mirroring n q → LabelsMeaning
labels_of n q m = collapsed m.reversed

-- the labels of the search through mirrored time: all product states that are reached before the least moment, each with the least moment at which it is
pub record AreLateLabels (n : NetworkLists) (q : Asked) (labels : List Label) : Type 0 where
  pub over : Mirroring n q
  pub arrival : Option ℕ
  pub first : IsArrival (graph_of n q over) (labels_of n q over) over.starts over.targets 0 (Some (span n q)) arrival
  pub least : AreLeastLabels (graph_of n q over) (labels_of n q over) over.starts 0 (Some (span n q)) arrival labels
