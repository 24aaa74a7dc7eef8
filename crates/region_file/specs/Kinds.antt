-- What a line says, read word by word.
use Rattle.std.specs.Prelude.{ℕ, ◌^◌, ◌*◌, ◌%◌, ◌==◌, List, [], ◌∷◌, codes, Option, Some, None, option_and_then, option_map, Result, Ok, Err, nat_lt, nat_le, if◌then◌else◌, bytes_eq}
use Rattle.plain_texts.specs.{words_of, name_of, hexadecimal_at, id_at, number_at, signed_at}
use Rattle.plan_base.specs.{mode_named, Place, place_of}
use Rattle.service_days.specs.{DaysMeaning.DaysMeaning, days_made, RangeFault}
use Rattle.mode_network.specs.{Arc}
use Rattle.timetable_arcs.specs.{Call}
use Rattle.region_file.specs.{Letters.letter_at, declared.lines.Line.Line}
use Rattle.region_file.specs.declared.lines.Line.TheVariants as line

infixl 10 ◌>>=◌
abbrev pub ◌>>=◌ : {A B : Type 0} → Option A → (A → Option B) → Option B
o >>= f = option_and_then f o

-- a number below 2 ^ 32
abbrev pub number_of_word : List ℕ → Option ℕ
number_of_word text = number_at (2 ^ 32) text

-- a latitude and a longitude in range
unfoldable pub place_of_words : List ℕ → List ℕ → Option Place
place_of_words lat lon = do
  north ← signed_at (2 * 10 ^ 9) lat
  east ← signed_at (2 * 10 ^ 9) lon
  place_of north east

abbrev pub days_if_made : Result DaysMeaning RangeFault → Option DaysMeaning
days_if_made (Ok days) = Some days
days_if_made (Err fault) = None

-- no word of a zone rule, or one
abbrev pub rule_of_words : List (List ℕ) → Option (Option (List ℕ))
rule_of_words [] = Some None
rule_of_words (rule ∷ []) = Some (Some rule)
rule_of_words (rule ∷ next ∷ more) = None

unfoldable pub days_of_words : List (List ℕ) → Option Line
days_of_words (first ∷ count ∷ rule) = do
  date ← number_of_word first
  days ← number_of_word count
  zone ← rule_of_words rule
  option_map line.Days (days_if_made (days_made date days zone))
days_of_words _ = None

unfoldable pub road_of_words : List (List ℕ) → Option Line
road_of_words (mode ∷ id ∷ lat ∷ lon ∷ []) = do
  layer ← mode_named mode
  key ← id_at id
  place ← place_of_words lat lon
  Some (line.Road layer key place)
road_of_words _ = None

unfoldable pub stop_of_words : List (List ℕ) → Option Line
stop_of_words (name ∷ lat ∷ lon ∷ []) = do
  key ← name_of name
  place ← place_of_words lat lon
  Some (line.Stop key place)
stop_of_words _ = None

unfoldable pub switch_of_words : List (List ℕ) → Option Line
switch_of_words (id ∷ lat ∷ lon ∷ []) = do
  key ← id_at id
  place ← place_of_words lat lon
  Some (line.Switch key place)
switch_of_words _ = None

-- an arc takes some time
unfoldable pub arc_of_words : List (List ℕ) → Option Arc
arc_of_words (from ∷ to ∷ ms ∷ []) = do
  tail ← number_of_word from
  head ← number_of_word to
  time ← number_of_word ms
  if nat_lt 0 time then Some (record { from = tail; to = head; ms = time }) else None
arc_of_words _ = None

-- a set of days has at least one
unfoldable pub trip_of_words : List (List ℕ) → Option Line
trip_of_words (letter ∷ days ∷ calls ∷ name ∷ []) = do
  means ← letter_at letter
  set ← hexadecimal_at days
  count ← number_of_word calls
  key ← name_of name
  Some (line.Trip means (record { 0 = set }) count key)
trip_of_words _ = None

-- flags are 1 for boarding plus 2 for alighting
unfoldable pub call_of_words : List (List ℕ) → Option Call
call_of_words (stop ∷ arr ∷ dep ∷ flags ∷ []) = do
  place ← number_of_word stop
  arrival ← number_of_word arr
  departure ← number_of_word dep
  marks ← number_at 4 flags
  Some (record { stop = place; arr = arrival; dep = departure; board = marks % 2 == 1; alight = nat_le 2 marks })
call_of_words _ = None

unfoldable pub end_of_words : List (List ℕ) → Option Line
end_of_words [] = Some line.End
end_of_words _ = None

unfoldable pub line_of_kind : List ℕ → List (List ℕ) → Option Line
line_of_kind kind fields =
    if bytes_eq kind (codes "call") then option_map line.Call (call_of_words fields)
    else (if bytes_eq kind (codes "trip") then trip_of_words fields
    else (if bytes_eq kind (codes "arc") then option_map line.Arc (arc_of_words fields)
    else (if bytes_eq kind (codes "link") then option_map line.Link (arc_of_words fields)
    else (if bytes_eq kind (codes "node") then road_of_words fields
    else (if bytes_eq kind (codes "stop") then stop_of_words fields
    else (if bytes_eq kind (codes "switch") then switch_of_words fields
    else (if bytes_eq kind (codes "days") then days_of_words fields
    else (if bytes_eq kind (codes "end") then end_of_words fields else None))))))))

abbrev pub line_of_words : List (List ℕ) → Option Line
line_of_words [] = None
line_of_words (kind ∷ fields) = line_of_kind kind fields

-- the line that a text spells
unfoldable pub line_of : List ℕ → Option Line
line_of text = line_of_words (words_of text)
