-- The lines of the summary.
use Rattle.std.specs.Prelude.{decimal, ℕ, List, ◌++◌, length, codes, Option}
use Rattle.plain_texts.specs.{with_feed}
use Rattle.mode_network.specs.{NetworkLists.NetworkLists, nodes_of}
use Rattle.sample_command.specs.Times.{equal, journeys, total_time, without}

-- a line with a word and a number
unfoldable pub told : List ℕ → ℕ → List ℕ
told word count = with_feed (word ++ codes " " ++ decimal count)

-- what there is of the city
abbrev pub city_text : ℕ → NetworkLists → List ℕ
city_text n city =
    told (codes "sample") n ++ told (codes "nodes") (length (nodes_of city)) ++ told (codes "arcs") (length city.arcs)
    ++ told (codes "links") (length city.links) ++ told (codes "stops") (length city.stops) ++ told (codes "trips") (length city.trips)

-- what the queries take, without a hierarchy and over one
abbrev pub times_text : List (Option ℕ) → List (Option ℕ) → ℕ → List ℕ
times_text plain over settled =
    told (codes "queries") (length plain) ++ told (codes "journeys") (journeys plain) ++ told (codes "none") (without plain) ++ told (codes "total") (total_time plain)
    ++ told (codes "equal") (equal plain over) ++ told (codes "settled") settled ++ with_feed (codes "end")
