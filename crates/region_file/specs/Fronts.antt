-- What stands at the front of bytes: a number, a name, a place, a record. Each is given with the bytes behind it, and there is none
-- where the bytes are cut short or say something out of range.
use Rattle.std.specs.Prelude.{ℕ, ◌+◌, ◌*◌, ◌%◌, ◌^◌, ◌==◌, nat_le, nat_lt, ℤ, unsigned_abs, Bool, true, false, List, [], ◌∷◌, length, take, drop, Option, Some, None, option_map, if◌then◌else◌, bytes_eq}
use Rattle.std.specs.Int.{w32, w64}
use Rattle.file_records.specs.{number_front, signed_front}
use Rattle.plain_texts.specs.{is_name}
use Rattle.plan_base.specs.{mode_numbered, Mode, Place, place_of}
use Rattle.service_days.specs.{DaysMeaning.DaysMeaning, days_made}
use Rattle.timetable_arcs.specs.{Call, TripLists}
use Rattle.search_laws.specs.{letter_count}
use Rattle.mode_network.specs.{Arc, Node, Road, Switch}
use Rattle.region_file.specs.{Bytes.plain_magic, Bytes.zoned_magic, Kinds.days_if_made, Kinds.◌>>=◌, declared.counts.Counts.Counts}

-- one byte below a limit
abbrev pub byte_front : ℕ → List ℕ → Option (ℕ × List ℕ)
byte_front below [] = None
byte_front below (b ∷ bytes) = if nat_lt b below then Some (b, bytes) else None

-- bytes behind their number
unfoldable pub counted_front : List ℕ → Option (List ℕ × List ℕ)
counted_front bytes = do
  count ← number_front w32 bytes
  if nat_le count.0 (length count.1) then Some (take count.0 count.1, drop count.0 count.1) else None

unfoldable pub name_front : List ℕ → Option (List ℕ × List ℕ)
name_front bytes = do
  name ← counted_front bytes
  if is_name name.0 then Some (name.0, name.1) else None

unfoldable pub place_front : List ℕ → Option (Place × List ℕ)
place_front bytes = do
  lat ← signed_front w32 bytes
  lon ← signed_front w32 lat.1
  place ← place_of lat.0 lon.0
  Some (place, lon.1)

-- an id of at most 18 digits
unfoldable pub id_front : List ℕ → Option (ℤ × List ℕ)
id_front bytes = do
  id ← signed_front w64 bytes
  if nat_lt (unsigned_abs id.0) (10 ^ 18) then Some (id.0, id.1) else None

-- a mode, by the byte of its number
abbrev pub mode_front : List ℕ → Option (Mode × List ℕ)
mode_front [] = None
mode_front (number ∷ bytes) = option_map (λ mode. (mode, bytes)) (mode_numbered number)

unfoldable pub road_front : List ℕ → Option (Node × List ℕ)
road_front bytes = do
  mode ← mode_front bytes
  id ← id_front mode.1
  place ← place_front id.1
  Some (record { key = Road mode.0 id.0; place = place.0 }, place.1)

unfoldable pub switch_front : List ℕ → Option (Node × List ℕ)
switch_front bytes = do
  id ← id_front bytes
  place ← place_front id.1
  Some (record { key = Switch id.0; place = place.0 }, place.1)

-- the name of a stop, and its place
unfoldable pub stop_front : List ℕ → Option ((List ℕ × Place) × List ℕ)
stop_front bytes = do
  name ← name_front bytes
  place ← place_front name.1
  Some ((name.0, place.0), place.1)

-- an arc takes some time
unfoldable pub arc_front : List ℕ → Option (Arc × List ℕ)
arc_front bytes = do
  from ← number_front w32 bytes
  to ← number_front w32 from.1
  ms ← number_front w32 to.1
  if nat_lt 0 ms.0 then Some (record { from = from.0; to = to.0; ms = ms.0 }, ms.1) else None

-- flags are 1 for boarding plus 2 for alighting
unfoldable pub call_front : List ℕ → Option (Call × List ℕ)
call_front bytes = do
  stop ← number_front w32 bytes
  arr ← number_front w32 stop.1
  dep ← number_front w32 arr.1
  flags ← byte_front 4 dep.1
  Some (record { stop = stop.0; arr = arr.0; dep = dep.0; board = flags.0 % 2 == 1; alight = nat_le 2 flags.0 }, flags.1)

-- the letters of trips are 3 to 13
unfoldable pub letter_front : List ℕ → Option (ℕ × List ℕ)
letter_front bytes = do
  letter ← byte_front letter_count bytes
  if nat_le 3 letter.0 then Some (letter.0, letter.1) else None

-- a set of days, which has at least one
unfoldable pub set_front : List ℕ → Option (ℕ × List ℕ)
set_front bytes = do
  high ← number_front w64 bytes
  low ← number_front w64 high.1
  if nat_lt 0 (high.0 * 2 ^ 64 + low.0) then Some (high.0 * 2 ^ 64 + low.0, low.1) else None

-- a trip that has no calls yet, and how many of them its record counts
unfoldable pub trip_front : List ℕ → Option ((TripLists × ℕ) × List ℕ)
trip_front bytes = do
  letter ← letter_front bytes
  days ← set_front letter.1
  calls ← number_front w32 days.1
  name ← name_front calls.1
  Some ((record { letter = letter.0; days = record { 0 = days.0 }; name = name.0; calls = [] }, calls.0), name.1)

-- ---- the head

unfoldable pub counts_front : List ℕ → Option (Counts × List ℕ)
counts_front bytes = do
  roads ← number_front w32 bytes
  stops ← number_front w32 roads.1
  switches ← number_front w32 stops.1
  arcs ← number_front w32 switches.1
  links ← number_front w32 arcs.1
  trips ← number_front w32 links.1
  Some (record { roads = roads.0; stops = stops.0; switches = switches.0; arcs = arcs.0; links = links.0; trips = trips.0 }, trips.1)

-- the zone rule, where there is one
abbrev pub rule_front : Bool → List ℕ → Option (Option (List ℕ) × List ℕ)
rule_front true bytes = option_map (λ rule. (Some rule.0, rule.1)) (counted_front bytes)
rule_front false bytes = Some (None, bytes)

-- whether the first eight bytes tell of a zone rule, where they are those of a region
unfoldable pub magic_front : List ℕ → Option (Bool × List ℕ)
magic_front bytes =
    if bytes_eq (take (length plain_magic) bytes) plain_magic then Some (false, drop (length plain_magic) bytes)
    else (if bytes_eq (take (length zoned_magic) bytes) zoned_magic then Some (true, drop (length zoned_magic) bytes) else None)

unfoldable pub head_front : List ℕ → Option ((DaysMeaning × Counts) × List ℕ)
head_front bytes = do
  zoned ← magic_front bytes
  first ← number_front w32 zoned.1
  count ← number_front w32 first.1
  counts ← counts_front count.1
  rule ← rule_front zoned.0 counts.1
  days ← days_if_made (days_made first.0 count.0 rule.0)
  Some ((days, counts.0), rule.1)
