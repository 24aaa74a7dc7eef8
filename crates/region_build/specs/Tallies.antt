-- How much a region has of all that has a limit, found before any copy of a trip is made.
use Rattle.std.specs.Prelude.{◌≡◌, ◌*◌, List, length, sum_by}
use Rattle.timetable_arcs.specs.{calls_of}
use Rattle.mode_network.specs.{NetworkLists.NetworkLists, nodes_of}
use Rattle.region_build.specs.{Copies.first_back, Copies.leaves_of, Left.AreLeft, Sources.SourceLists}
pub use Rattle.region_build.specs.{declared.tallies.Counts.Counts, declared.tallies.Tally.Tally}

-- how many trips there are, how many calls they have together, the first row whose times go back, and what is left out
pub record IsTally (sources : List SourceLists) (tally : Tally) : Type 0 where
  pub trips : tally.trips ≡ sum_by (λ source. length (leaves_of source)) sources
  pub calls : tally.calls ≡ sum_by (λ source. length (leaves_of source) * length source.calls) sources
  pub back : tally.back ≡ first_back sources
  pub left : AreLeft sources tally.left_out

abbrev pub tallies_of : NetworkLists → Counts
tallies_of n = record {
  nodes = length (nodes_of n);
  stops = length n.stops;
  arcs = length n.arcs;
  links = length n.links;
  trips = length n.trips;
  calls = calls_of n.trips;
}
