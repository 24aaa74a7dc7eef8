-- What a network in mirrored time keeps of its rows: each ride is one of a pattern, and few arcs lead to a node.
use Rattle.std.specs.Prelude.{ℕ, ◌<◌, ◌^◌, List, length, sum_by}
use Rattle.std.proofs.Props.{props}
use Rattle.timetable_arcs.specs.{TableLists}
use Rattle.plain_graph.specs.{PlainArc, Road, Link, Stand, Ride, IsKnownRide}
use Rattle.latest_departure.specs.{declared.source.Source.Source, declared.source.Entry.Entry, MirrorArcs.count_of, MirrorArcs.arcs_into, MirrorArcs.arc_into, Entries.row_entries}
use Rattle.latest_departure.specs.declared.source.Source.TheVariants as source

abbrev pub source_of : Entry → Source
source_of entry = entry.source

abbrev pub entry_count : Entry → ℕ
entry_count entry = count_of entry.source

abbrev pub no_source_entry : Entry
no_source_entry = record { node = 0; source = source.Road (record { from = 0; to = 0; ms = 0 }) }

abbrev pub RidesAreKnown : TableLists → (ℕ → List Source) → ℕ → Type 0
RidesAreKnown t rows nodes = (v i : ℕ) → v < nodes → i < length (arcs_into rows v) → IsKnownRide t (arc_into rows v i)

abbrev pub FewLead : List Entry → List ℕ → ℕ → Type 0
FewLead entries places nodes = (v : ℕ) → v < nodes → sum_by entry_count (row_entries entries places v) < 2 ^ 64

-- there is one proof at most that rides are known
pub IsKnownRide-prop : (t : TableLists) (a : PlainArc) → IsProp (IsKnownRide t a)
IsKnownRide-prop t (Road arc) = hlevel props
IsKnownRide-prop t (Link link) = hlevel props
IsKnownRide-prop t Stand = hlevel props
IsKnownRide-prop t (Ride ride) = hlevel props

pub RidesAreKnown-prop : (t : TableLists) (rows : ℕ → List Source) (nodes : ℕ) → IsProp (RidesAreKnown t rows nodes)
RidesAreKnown-prop t rows nodes = hlevel (props, IsKnownRide-prop)
