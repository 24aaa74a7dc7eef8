-- What a search for a journey with a ride goes over, and what it finds.
use Rattle.std.specs.Prelude.{◌≡◌, ℕ, ◌+◌, ◌<◌, ◌≤◌, ◌^◌, ◌↔◌, false, List, length, All, Option, Some, None}
use Rattle.search_laws.specs.{LabelsMeaning, Accepts, collapse}
use Rattle.timetable_arcs.specs.{TableLists}
use Rattle.mode_network.specs.{NetworkLists.NetworkLists, nodes_of, Route}
use Rattle.mode_expression.specs.{Form.Form, IsWordOf}
use Rattle.automaton.specs.{collapsed, position_meaning}
use Rattle.product_search.specs.{Walk}
use Rattle.plain_graph.specs.{JourneysAreWalks}
use Rattle.journey.specs.{Asked, asked_by, IsPrintable, AreTheCopies}
use Rattle.unpack.specs.{TakesHops}
use Rattle.few_boardings.specs.{counted, transits}
use Rattle.departures.specs.{declared.row.Pair.Pair, declared.row.Row.Row, declared.search.RideSearch.RideSearch, Departures.IsPair, Departures.IsRow, inside.SettingOff.IsSetOff}

-- the automaton accepts the words that have a transit letter, and whose collapse the form denotes
abbrev pub ReadsRides : Form → LabelsMeaning → Type 0
ReadsRides form l = (word : List ℕ) → Accepts l word ↔ (IsWordOf form (collapse word) × (1 ≤ transits word))

-- what a search is for, and the network that it goes over
abbrev pub asked_of : RideSearch → Asked
asked_of s = asked_by s.query.now

abbrev pub searched_network : RideSearch → NetworkLists
searched_network s = s.plain.network.now

-- what the automaton of a search answers
abbrev pub search_labels : RideSearch → LabelsMeaning
search_labels s = counted (collapsed (position_meaning s.expressed.made.labels.inner.inner)) s.expressed.made.labels.side s.expressed.made.labels.limit

-- a search for what its query asks
pub record IsRideSearch (s : RideSearch) : Type 0 where
  pub reads : ReadsRides (asked_of s).form (search_labels s)
  pub none : s.reads_transit ≡ false → (word : List ℕ) → Accepts (search_labels s) word → ⊥
  pub journeys : JourneysAreWalks (searched_network s) s.plain.timetable.now
  pub origin : AreTheCopies (searched_network s) (asked_of s).from s.origins.items
  pub destination : AreTheCopies (searched_network s) (asked_of s).to s.destinations.items
  pub start_nodes : All (λ v. v < length (nodes_of (searched_network s))) s.origins.items

-- the row has this arrival and the journey of the walk, which sets off as late as it may
pub record IsRowFor (n : NetworkLists) (table : TableLists) (arrival : ℕ) (walk : Walk) (row : Row) : Type 0 where
  pub journey : Route
  pub takes : TakesHops n table walk journey
  pub set_off : IsSetOff n journey row.journey
  pub departs : row.journey.at ≡ row.pair.depart
  pub arrives : row.pair.arrive ≡ arrival

-- the row of a walk with its arrival, if both are there
abbrev pub IsRowUnpacked : NetworkLists → TableLists → Option ℕ → Option Walk → Option Row → Type 0
IsRowUnpacked n table (Some arrival) (Some walk) (Some row) = IsRowFor n table arrival walk row
IsRowUnpacked n table (Some arrival) (Some walk) None = ⊥
IsRowUnpacked n table (Some arrival) None row = row ≡ None
IsRowUnpacked n table None walk row = row ≡ None

-- the journey of a row can be printed
abbrev pub IsPrintableRow : NetworkLists → Row → Type 0
IsPrintableRow n row = IsPrintable n row.journey

-- the row departs at t or later, and arrives as early as any pair that does
pub record IsFirstRow (n : NetworkLists) (q : Asked) (t : ℕ) (row : Row) : Type 0 where
  pub is_row : IsRow n q row
  pub late : t ≤ row.pair.depart
  pub least : (p : Pair) → IsPair n q p → t ≤ p.depart → row.pair.arrive ≤ p.arrive
  pub rises : row.pair.depart ≤ row.pair.arrive
  pub soon : row.pair.arrive < 2 ^ 99
  pub printable : IsPrintableRow n row

-- there is such a row; or no pair departs at t or later
abbrev pub IsFirstRowFrom : NetworkLists → Asked → ℕ → Option Row → Type 0
IsFirstRowFrom n q t None = (p : Pair) → IsPair n q p → t ≤ p.depart → ⊥
IsFirstRowFrom n q t (Some row) = IsFirstRow n q t row

-- each journey with a ride takes so long or longer, whenever it leaves
abbrev pub NoneTakesLess : NetworkLists → Asked → ℕ → Type 0
NoneTakesLess n q c = (p : Pair) → IsPair n q p → p.depart + c ≤ p.arrive
