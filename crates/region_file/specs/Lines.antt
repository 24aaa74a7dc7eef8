-- The spelling of a region: its lines in words.
use Rattle.std.specs.Prelude.{◌≡◌, ℕ, ◌+◌, ◌<◌, ◌≤◌, ◌^◌, List, [], ◌∷◌, ◌++◌, length, map, Option, Some, None, Ok, codes, decimal, true, if◌then◌else◌, slice_index_or, zip, flat_map}
use Rattle.std.specs.Fmt.{signed_decimal}
use Rattle.std.specs.List.{AllByRecursion}
use Rattle.plain_texts.specs.{lines_text, spaced, is_name, IsHexadecimal, hexadecimal, IsId}
use Rattle.plan_base.specs.{DaySet, letter_names, number_of_mode, Mode, Place}
use Rattle.service_days.specs.{DaysMeaning.DaysMeaning, days_made}
use Rattle.timetable_arcs.specs.{Call, TripLists}
use Rattle.search_laws.specs.{IsLetter}
use Rattle.mode_network.specs.{Arc, Node, NodeKey, Road, Stop, Switch, AreParts, NetworkLists.NetworkLists}
use Rattle.region_file.specs.Letters.{letter_name}
pub use Rattle.region_file.specs.declared.lines.Line.{Line}
use Rattle.region_file.specs.declared.lines.Line.TheVariants as line

abbrev pub mode_name : Mode → List ℕ
mode_name mode = slice_index_or letter_names (number_of_mode mode) []

abbrev pub place_words : Place → List (List ℕ)
place_words place = signed_decimal place.lat ∷ signed_decimal place.lon ∷ []

abbrev pub arc_words : Arc → List (List ℕ)
arc_words arc = decimal arc.from ∷ decimal arc.to ∷ decimal arc.ms ∷ []

-- the word of a zone rule, where the days have one
abbrev pub rule_words : Option (List ℕ) → List (List ℕ)
rule_words None = []
rule_words (Some rule) = rule ∷ []

-- 1 where travellers may board, and 2 more where they may alight
abbrev pub flags_of : Call → ℕ
flags_of call = (if call.board then 1 else 0) + (if call.alight then 2 else 0)

abbrev pub call_words : Call → List (List ℕ)
call_words call = decimal call.stop ∷ decimal call.arr ∷ decimal call.dep ∷ decimal (flags_of call) ∷ []

abbrev pub trip_words : ℕ → DaySet → ℕ → List ℕ → List (List ℕ)
trip_words letter days calls name = letter_name letter ∷ hexadecimal days.0 ∷ decimal calls ∷ name ∷ []

-- the words of a line
abbrev pub words : Line → List (List ℕ)
words (line.Days days) = codes "days" ∷ decimal days.first ∷ decimal days.count ∷ rule_words days.zone
words (line.Road mode id place) = codes "node" ∷ mode_name mode ∷ signed_decimal id ∷ place_words place
words (line.Stop name place) = codes "stop" ∷ name ∷ place_words place
words (line.Switch id place) = codes "switch" ∷ signed_decimal id ∷ place_words place
words (line.Arc arc) = codes "arc" ∷ arc_words arc
words (line.Link arc) = codes "link" ∷ arc_words arc
words (line.Trip letter days calls name) = codes "trip" ∷ trip_words letter days calls name
words (line.Call call) = codes "call" ∷ call_words call
words line.End = codes "end" ∷ []

abbrev pub spelled : Line → List ℕ
spelled l = spaced (words l)

-- Node numbers are below 2 ^ 32, and a duration is from 1 to 2 ^ 32 - 1 milliseconds.
pub record FitsArc (arc : Arc) : Type 0 where
  pub from : arc.from < 2 ^ 32
  pub to : arc.to < 2 ^ 32
  pub some : 0 < arc.ms
  pub ms : arc.ms < 2 ^ 32

-- Days are those of their first date, their count and their zone rule, if they have one.
pub record FitsDays (days : DaysMeaning) : Type 0 where
  pub first : days.first < 2 ^ 32
  pub count : days.count < 2 ^ 32
  pub made : days_made days.first days.count days.zone ≡ Ok days

-- Letters are 3 to 13. There is some day, and none above 127.
pub record FitsTrip (letter : ℕ) (days : DaySet) (calls : ℕ) (name : List ℕ) : Type 0 where
  pub from_tram : 3 ≤ letter
  pub to_other : IsLetter letter
  pub some_day : IsHexadecimal days.0
  pub few : calls < 2 ^ 32
  pub named : is_name name ≡ true

-- Stops are counted, and times are seconds, below 2 ^ 32.
pub record FitsCall (call : Call) : Type 0 where
  pub stop : call.stop < 2 ^ 32
  pub arr : call.arr < 2 ^ 32
  pub dep : call.dep < 2 ^ 32

-- what a line may say
abbrev pub FitsLine : Line → Type 0
FitsLine (line.Days days) = FitsDays days
FitsLine (line.Road mode id place) = IsId id
FitsLine (line.Stop name place) = is_name name ≡ true
FitsLine (line.Switch id place) = IsId id
FitsLine (line.Arc arc) = FitsArc arc
FitsLine (line.Link arc) = FitsArc arc
FitsLine (line.Trip letter days calls name) = FitsTrip letter days calls name
FitsLine (line.Call call) = FitsCall call
FitsLine line.End = Unit {0}

-- the line of a road node or a switch; the name of a stop stands apart from its node
abbrev pub key_line : NodeKey → Place → Line
key_line (Road mode id) place = line.Road mode id place
key_line (Stop stop) place = line.Stop [] place
key_line (Switch id) place = line.Switch id place

abbrev pub node_line : Node → Line
node_line node = key_line node.key node.place

abbrev pub stop_line : List ℕ × Node → Line
stop_line stop = line.Stop stop.0 stop.1.place

-- the line of a trip, which says how many calls it has, and those of its calls
abbrev pub trip_lines : TripLists → List Line
trip_lines trip = line.Trip trip.letter trip.days (length trip.calls) trip.name ∷ map line.Call trip.calls

-- the lines of a network: its days, its nodes in the order of their numbers, its arcs, its links, its trips with
-- their calls, and the end
unfoldable pub region_lines : NetworkLists → List Line
region_lines n =
    line.Days n.days ∷ (map node_line n.roads ++ (map stop_line (zip n.stop_names n.stops) ++ (map node_line n.switches ++ (map line.Arc n.arcs ++ (map line.Link n.links ++ (flat_map trip_lines n.trips ++ line.End ∷ []))))))

-- the head line, with its line feed
abbrev pub head_line : List ℕ
head_line = codes "modeplan region 1" ++ 10 ∷ []

-- the one spelling of a network
unfoldable pub region_text : NetworkLists → List ℕ
region_text n = head_line ++ lines_text (map spelled (region_lines n))

-- what has a spelling: the parts of a network, each of whose lines says what a line may say
pub record IsRegion (n : NetworkLists) : Type 0 where
  pub parts : AreParts n
  pub fits : AllByRecursion FitsLine (region_lines n)
