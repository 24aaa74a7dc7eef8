pub mod Late
pub mod Blocks
pub mod Reversed
pub mod Backward
pub mod BackwardLaws
pub mod StateViews
pub mod Meanings
pub mod Entries
pub mod MirrorArcs
pub mod Known
pub mod BackLists
pub mod inside
pub mod Mirrored
pub mod Latest
pub mod Searches
pub mod ValidLate
pub mod Limits
pub use Late.{deadline, first_moment, IsInTime, IsBestLate, HasNoneInTime, IsLateResult, IsToldResult}
pub use Blocks.{IsLateJourneyText, IsResultText, IsAnswerBlock, IsLateBlock, IsShownBlock}
pub use Reversed.{IsReversed, AcceptsReversed, all_moves, turned_move, turned, turned_from, turned_below, StateLists, no_state, states_meaning, turned_state}
pub use StateViews.{State, view_of}
pub use Meanings.{reversed_meaning}
pub use Entries.{Source, Entry, source_entry, road_entry, link_entry, stand_entries, alight_entry, alight_entries, stands_of, alights_of, entries_of, entries_begin, row_entries, sources_at, AreOffsets}
pub use MirrorArcs.{plain_arcs_of, count_of, plain_arc_of, arcs_into, mirror_arc, run_by, begins, arc_into, mirror_meaning, AlightsAt, LeadsInto, AreSources}
pub use Known.{source_of, entry_count, no_source_entry, RidesAreKnown}
pub use BackLists.{source_rows, mirrored, IsBackwards}
pub use Mirrored.{HasSteps, MirrorsAreJourneys, HasMirror, JourneysAreMirrors}
pub use Latest.{IsLate, span, ReadsFromEnds, AreSwappedEnds, Mirroring, graph_of, labels_of, AreLateLabels}
pub use Searches.{LateSearch, IsSearchFor}
pub use ValidLate.{LateClaim, LateSetting, LateHolds, late_bound, IsValidLate, ProvesLate, ValidLateProves}
pub use Limits.{LateSearchHasMore, LateSearchHasAtMost, IsWithinLateLabels, IsLateBlockWithin}
