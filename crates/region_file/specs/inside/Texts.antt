-- What is written of the parts of a network.
use Rattle.std.specs.Prelude.{ℕ, List, [], ◌++◌, length, slice_index_or, ◌<◌, flat_map}
use Rattle.plain_texts.specs.{with_feed}
use Rattle.plan_base.specs.{Place}
use Rattle.timetable_arcs.specs.{TripLists}
use Rattle.mode_network.specs.{Node, NodeKey, Road, Stop, Switch, NetworkLists.NetworkLists}
use Rattle.region_file.specs.{declared.lines.Line.Line, declared.format.Format.Format, declared.format.Format.TheVariants.Text, declared.format.Format.TheVariants.Binary, Bytes.call_bytes, Bytes.counts_of, Bytes.head_bytes, Bytes.record_bytes, Bytes.trip_bytes, Lines.head_line, Lines.spelled, Lines.trip_lines}
use Rattle.region_file.specs.declared.lines.Line.TheVariants as line

-- a line and its line feed
abbrev pub line_text : Line → List ℕ
line_text l = with_feed (spelled l)

-- the name of the stop at a place of these
abbrev pub name_at : List (List ℕ) → ℕ → List ℕ
name_at names stop = slice_index_or names stop []

-- the line of a node, whose stop has its name
abbrev pub named_line : List (List ℕ) → NodeKey → Place → Line
named_line names (Road mode id) place = line.Road mode id place
named_line names (Stop stop) place = line.Stop (name_at names stop) place
named_line names (Switch id) place = line.Switch id place

-- a line as it is written in a format
abbrev pub line_in : Format → Line → List ℕ
line_in Text l = line_text l
line_in Binary l = record_bytes l

abbrev pub node_in : Format → List (List ℕ) → Node → List ℕ
node_in format names node = line_in format (named_line names node.key node.place)

-- the line of a trip, and those of its calls
abbrev pub trip_in : Format → TripLists → List ℕ
trip_in format trip = flat_map (line_in format) (trip_lines trip)

-- what stands before the lines in a format
abbrev pub head_in : Format → NetworkLists → List ℕ
head_in Text n = head_line
head_in Binary n = head_bytes n.days (counts_of n)

-- the record of a trip, and those of its calls
abbrev pub trip_records : TripLists → List ℕ
trip_records trip = trip_bytes trip.letter trip.days (length trip.calls) trip.name ++ flat_map call_bytes trip.calls

-- a stop is one of those that have a name
abbrev pub IsNamedKey : List (List ℕ) → NodeKey → Type 0
IsNamedKey names (Road mode id) = Unit {0}
IsNamedKey names (Stop stop) = stop < length names
IsNamedKey names (Switch id) = Unit {0}
