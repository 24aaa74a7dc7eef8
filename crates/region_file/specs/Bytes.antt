-- The spelling of a region in bytes, which is format 2: a head, and a record for each line of the region behind that of its
-- days. All numbers are big-endian, and a signed number is its two's complement.
use Rattle.std.specs.Prelude.{ℕ, ◌/◌, ◌%◌, ◌<◌, ◌^◌, List, [], ◌∷◌, ◌++◌, length, codes, Option, Some, None, flat_map}
use Rattle.std.specs.Int.{w32, w64, to_be_bytes}
use Rattle.file_records.specs.{signed_bytes}
use Rattle.plan_base.specs.{DaySet, number_of_mode, Place}
use Rattle.service_days.specs.DaysMeaning.{DaysMeaning}
use Rattle.timetable_arcs.specs.{Call}
use Rattle.mode_network.specs.{Arc, NetworkLists.NetworkLists}
use Rattle.region_file.specs.{Lines.flags_of, Lines.region_lines, declared.lines.Line.Line}
pub use Rattle.region_file.specs.declared.counts.Counts.{Counts}
use Rattle.region_file.specs.declared.lines.Line.TheVariants as line

-- a number of four bytes
abbrev pub word_bytes : ℕ → List ℕ
word_bytes n = to_be_bytes w32 n

-- bytes behind their number
abbrev pub counted_bytes : List ℕ → List ℕ
counted_bytes bytes = word_bytes (length bytes) ++ bytes

abbrev pub place_bytes : Place → List ℕ
place_bytes place = signed_bytes w32 place.lat ++ signed_bytes w32 place.lon

abbrev pub arc_bytes : Arc → List ℕ
arc_bytes arc = word_bytes arc.from ++ (word_bytes arc.to ++ word_bytes arc.ms)

-- a number of sixteen bytes, of which the higher eight stand first
abbrev pub set_bytes : ℕ → List ℕ
set_bytes n = to_be_bytes w64 (n / 2 ^ 64) ++ to_be_bytes w64 (n % 2 ^ 64)

abbrev pub trip_bytes : ℕ → DaySet → ℕ → List ℕ → List ℕ
trip_bytes letter days calls name = letter ∷ (set_bytes days.0 ++ (word_bytes calls ++ counted_bytes name))

abbrev pub call_bytes : Call → List ℕ
call_bytes call = word_bytes call.stop ++ (word_bytes call.arr ++ (word_bytes call.dep ++ (flags_of call ∷ [])))

-- The record of a line. The days have none, since they stand in the head; and nothing is written for the end.
abbrev pub record_bytes : Line → List ℕ
record_bytes (line.Days days) = []
record_bytes (line.Road mode id place) = number_of_mode mode ∷ (signed_bytes w64 id ++ place_bytes place)
record_bytes (line.Stop name place) = counted_bytes name ++ place_bytes place
record_bytes (line.Switch id place) = signed_bytes w64 id ++ place_bytes place
record_bytes (line.Arc arc) = arc_bytes arc
record_bytes (line.Link arc) = arc_bytes arc
record_bytes (line.Trip letter days calls name) = trip_bytes letter days calls name
record_bytes (line.Call call) = call_bytes call
record_bytes line.End = []

-- the first eight bytes: they tell whether the days have a zone rule
abbrev pub plain_magic : List ℕ
plain_magic = codes "MPREGN02"

abbrev pub zoned_magic : List ℕ
zoned_magic = codes "MPREGZ02"

abbrev pub magic_of : Option (List ℕ) → List ℕ
magic_of None = plain_magic
magic_of (Some rule) = zoned_magic

abbrev pub rule_bytes : Option (List ℕ) → List ℕ
rule_bytes None = []
rule_bytes (Some rule) = counted_bytes rule

abbrev pub counts_bytes : Counts → List ℕ
counts_bytes c = word_bytes c.roads ++ (word_bytes c.stops ++ (word_bytes c.switches ++ (word_bytes c.arcs ++ (word_bytes c.links ++ word_bytes c.trips))))

-- the head: the first date, the count and the zone rule of the days, and how many records of each kind follow; the calls of a
-- trip are counted by its record
abbrev pub head_by : ℕ → ℕ → Option (List ℕ) → Counts → List ℕ
head_by first count zone c = magic_of zone ++ (word_bytes first ++ (word_bytes count ++ (counts_bytes c ++ rule_bytes zone)))

abbrev pub head_bytes : DaysMeaning → Counts → List ℕ
head_bytes days c = head_by days.first days.count days.zone c

abbrev pub counts_of : NetworkLists → Counts
counts_of n = record {
  roads = length n.roads;
  stops = length n.stops;
  switches = length n.switches;
  arcs = length n.arcs;
  links = length n.links;
  trips = length n.trips;
}

-- the one spelling of a network in bytes
unfoldable pub region_bytes : NetworkLists → List ℕ
region_bytes n = head_bytes n.days (counts_of n) ++ flat_map record_bytes (region_lines n)

-- each count has four bytes
pub record FitCounts (c : Counts) : Type 0 where
  pub roads : c.roads < 2 ^ 32
  pub stops : c.stops < 2 ^ 32
  pub switches : c.switches < 2 ^ 32
  pub arcs : c.arcs < 2 ^ 32
  pub links : c.links < 2 ^ 32
  pub trips : c.trips < 2 ^ 32
