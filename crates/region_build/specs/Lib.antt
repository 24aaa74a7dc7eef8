pub mod Ends
pub mod Roads
pub mod StopNames
pub mod Switches
pub mod Links
pub mod Services
pub mod Groups
pub mod Sources
pub mod Copies
pub mod Left
pub mod Tallies
pub mod Compiled
pub mod Answers
pub mod inside
pub use Ends.{End, ends_at, end_cmp, key_of_end, is_same_end, once_behind, AreEnds}
unfoldable pub use Ends.{number_of_end}
pub use Roads.{road_nodes, arc_between, arcs_of}
unfoldable pub use Roads.{road_node, arc_by_row}
pub use StopNames.{StopEntry, entries_from, AreEntries, stop_entry_nodes, number_from}
unfoldable pub use StopNames.{stop_number}
pub use Switches.{is_switch, switch_at, AreSwitches, switch_node}
pub use Links.{Join, join, stop_joins, switch_joins, linked, linked_to, place_links, joined_stop, joined_switch, stop_links, switch_links, FindsNearest, AreLinks}
unfoldable pub use Links.{layer, join_links, links_at}
pub use Services.{rule_of, is_change, AreDaysBy, AreDaysOf}
unfoldable pub use Services.{dates_of}
pub use Groups.{Ascend, trip_of_call, trip_of_frequency, is_of, own_count}
pub use Sources.{Source, SourceLists, lists_of, AreCallsInOrder, AreFrequenciesInOrder, letter_of, IsSource, AreSourcesFrom, AreTripSources}
pub use Copies.{first_departure, departing, moved, is_copy_early, is_kept, runs, is_leaving, departures_by_all, rows_go_on, back_of, first_back}
unfoldable pub use Copies.{departures_by, call_at, copy_at, departures_of, leaves_of, copies_of, expanded}
pub use Left.{LeftOut, is_short, is_idle, is_inexact, late_copies, AreLeft}
pub use Tallies.{Counts, Tally, IsTally, tallies_of}
pub use Compiled.{AreRoads, AreLists, network_lists, IsDraft, kind_over}
pub use Answers.{BuildFault, TimeGoesBack, TooMany, OutOfMemory, or_else, fault_by, draft_fault, IsCompiled, HasFault, IsFaultOf}
