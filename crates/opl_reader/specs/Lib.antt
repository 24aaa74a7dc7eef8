-- What a map means: Lines and Objects, with the pages that they cite. Gathered, Readers and Readings tell what is kept while
-- lines are read.
pub mod Optional
pub mod Cuts
pub mod Ids
pub mod Escapes
pub mod Tags
pub mod References
pub mod ObjectLists
pub mod Lines
pub mod Objects
pub mod Gathered
pub mod Readers
pub mod Readings
pub use Optional.{◌>>=◌, each}
pub use Cuts.{is_byte, is_blank}
unfoldable pub use Cuts.{cut_of, at_commas, at_blanks}
pub use Ids.{digit_step}
unfoldable pub use Ids.{up_to_eighteen_digits_at, osm_id_at}
pub use Escapes.{either_case_digit_of, either_case_step, by_turns}
unfoldable pub use Escapes.{hexadecimal_scalar_at, character_at, unescaped}
pub use Tags.{Element, Amenity, Nothing, Parking, BicycleParking, BicycleRental, is_key, with_tag}
unfoldable pub use Tags.{tag_at}
unfoldable pub use References.{reference_at}
pub use ObjectLists.{OsmNode, OsmWay, ids_of, is_placed, IsOsmId, IsPiece, AreObjects}
pub use Lines.{Line, Passed, Bad, is_field, values_of, at_most_one, visible_of, place_in, tags_in, references_in, element_line, words_line, is_plain_byte}
unfoldable pub use Lines.{field_of, node_by_tags, way_by_tags, node_by_fields, way_by_fields, text_line, map_line_of}
pub use Objects.{OplFault, BadLine, RepeatedObject, TooMany, NodeLine, WayLine, node_on, way_on, nodes_on, ways_on, placed, placed_on, references_on, has_node, has_way, fault_behind, first_line_fault, cut_way, objects_on, faultless, objects_of_lines, all_but_last}
unfoldable pub use Objects.{ended_fault, objects_of}
pub use Gathered.{OutOfMemory, GatheredLists, nothing_gathered, IsFaultOf, with_line, last_line, is_seen_placed, objects_from}
pub use Readers.{ReaderState, state_of, on_ok, fresh, holding, with_end, with_pieces, finished, OplState}
unfoldable pub use Readers.{with_bytes}
pub use Readings.{HasTaken, IsEndedFault, IsFaultOfEnded}
