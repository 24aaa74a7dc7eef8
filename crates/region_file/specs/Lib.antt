pub mod Letters
pub mod Lines
pub mod Kinds
pub mod Sections
pub mod Bytes
pub mod Fronts
pub mod Records
pub mod Due
pub mod Regions
pub mod inside
pub use Letters.{letter_name}
unfoldable pub use Letters.{letter_at}
pub use Lines.{Line, mode_name, place_words, arc_words, rule_words, flags_of, call_words, words, spelled, FitsArc, FitsDays, FitsTrip, FitsCall, FitsLine, key_line, node_line, stop_line, trip_lines, head_line, IsRegion}
unfoldable pub use Lines.{region_lines, region_text}
pub use Kinds.{number_of_word, days_if_made, rule_of_words, line_of_words}
unfoldable pub use Kinds.{place_of_words, days_of_words, road_of_words, stop_of_words, switch_of_words, arc_of_words, trip_of_words, call_of_words, end_of_words, line_of_kind, line_of}
pub use Sections.{Progress, Section, rank, section_of, may_follow, is_due, calls_due_behind, may_stand, behind, progress_after, start, behind_days, is_end, placed_line}
unfoldable pub use Sections.{line_at}
pub use Bytes.{Counts, word_bytes, counted_bytes, place_bytes, arc_bytes, set_bytes, trip_bytes, call_bytes, record_bytes, plain_magic, zoned_magic, magic_of, rule_bytes, counts_bytes, head_bytes, counts_of, FitCounts}
unfoldable pub use Bytes.{region_bytes}
pub use Fronts.{byte_front, mode_front, rule_front}
unfoldable pub use Fronts.{counted_front, name_front, place_front, id_front, road_front, switch_front, stop_front, arc_front, call_front, letter_front, set_front, trip_front, counts_front, magic_front, head_front}
pub use Records.{RegionFault, BadHead, BadRecord, Trailing, stop_nodes, whole_network, network_behind}
unfoldable pub use Records.{many, trip_read, stops_read, network_records, lists_in}
pub use Due.{announce, due_of, next_behind, record_after}
pub use Regions.{Network, OutOfMemory, Format, Text, Binary, nothing, with_last_call, put, put_all, or_fault, network_of, lists_by, Gives, spelling, IsInBytes, AreSpelling, IsDecoded, HasHeadLine, BeginsWith, IsBadRecord, HasCause, SpellNone, IsNoRegion, IsRefusedRegion}
unfoldable pub use Regions.{lists_in_text, behind_head, region_of}
