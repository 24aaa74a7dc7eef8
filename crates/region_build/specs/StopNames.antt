-- The stops of a feed in the order of their names.
use Rattle.std.specs.Prelude.{ℕ, ◌+◌, List, [], ◌∷◌, nat_eq, Option, None, Some, if◌then◌else◌, IsPermutation, IsSorted}
use Rattle.plain_texts.specs.{escaped}
use Rattle.gtfs_tables.specs.{StopRow}
use Rattle.mode_network.specs.{Node, Stop, name_cmp}
pub use Rattle.region_build.specs.declared.stops.StopEntry.{StopEntry}

-- the stops of a feed, counted from k
abbrev pub entries_from : ℕ → List StopRow → List StopEntry
entries_from k [] = []
entries_from k (stop ∷ stops) = record { name = escaped stop.id; stop = k; place = stop.place } ∷ entries_from (k + 1) stops

-- all stops of the feed, in the order of their names
pub record AreEntries (stops : List StopRow) (entries : List StopEntry) : Type 0 where
  pub same : IsPermutation (entries_from 0 stops) entries
  pub ascend : IsSorted (λ a b. name_cmp a.name b.name) entries

-- their nodes, counted from k
abbrev pub stop_entry_nodes : ℕ → List StopEntry → List Node
stop_entry_nodes k [] = []
stop_entry_nodes k (entry ∷ entries) = record { key = Stop k; place = entry.place } ∷ stop_entry_nodes (k + 1) entries

-- the number of the stop that has this place in the feed's list; the numbers are counted from k
abbrev pub number_from : ℕ → List StopEntry → ℕ → Option ℕ
number_from k [] stop = None
number_from k (entry ∷ entries) stop = if nat_eq entry.stop stop then Some k else number_from (k + 1) entries stop

unfoldable pub stop_number : List StopEntry → ℕ → Option ℕ
stop_number entries stop = number_from 0 entries stop
