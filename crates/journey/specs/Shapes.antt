-- What a query line says by itself: FROM TO DATE TIME EXPR, with one space after each of the first four fields.
use Rattle.std.specs.Prelude.{ℕ, ◌+◌, ◌*◌, List, [], ◌∷◌, length, take, drop, Bool, ◌==◌, ◌&&◌, nat_lt, nat_eq, nat_le, Option, Some, None, if◌then◌else◌, option_map, option_and_then, position, Result, Err, ok_or}
pub use Rattle.journey.specs.{declared.fault.QueryFault.QueryFault, declared.fault.QueryFault.TheVariants.BadClock, declared.fault.QueryFault.TheVariants.OutOfRange}
use Rattle.plan_base.specs.{Place, mode_named, place_of}
use Rattle.geo_length.specs.{degrees_of}
use Rattle.plain_texts.specs.{id_at, fixed_at}
use Rattle.service_days.specs.{DaysMeaning.DaysMeaning, base_of, day_with_date, date_at}
use Rattle.mode_network.specs.{Endpoint, Near, NearIn, declared.endpoints.Endpoint.TheVariants.Road, declared.endpoints.Endpoint.TheVariants.Stop}

-- what stands before the first such byte of a text, and what stands after it
abbrev pub at_byte : ℕ → List ℕ → Option (List ℕ × List ℕ)
at_byte byte text = option_map (λ k. (take k text, drop (k + 1) text)) (position (λ b. b == byte) text)

abbrev pub at_space : List ℕ → Option (List ℕ × List ℕ)
at_space text = at_byte 32 text

-- LAT,LON: degrees of a latitude and of a longitude, with a comma between them
abbrev pub place_at : List ℕ → Option Place
place_at text =
    option_and_then (λ parts. option_and_then (λ lat. option_and_then (λ lon. place_of lat lon)
    (degrees_of 180 parts.1)) (degrees_of 90 parts.0)) (at_byte 44 text)

-- the name of a mode, `@` and a place
abbrev pub near_in_at : List ℕ → Option Endpoint
near_in_at field =
    option_and_then (λ parts. option_and_then (λ mode. option_map (NearIn mode) (place_at parts.1))
    (mode_named parts.0)) (at_byte 64 field)

-- `n` and the id of an OSM node, or `s` and the name of a stop, which is at least one byte, or `@` and a place, also
-- behind the name of a mode
abbrev pub endpoint_of : List ℕ → Option Endpoint
endpoint_of [] = None
endpoint_of (mark ∷ name) =
    if mark == 110 then option_map Road (id_at name)
    else (if (mark == 115) && nat_lt 0 (length name) then Some (Stop name)
    else (if mark == 64 then option_map Near (place_at name) else near_in_at (mark ∷ name)))

-- the fields of a query line
pub record Fields : Type 0 where
  pub from : List ℕ
  pub to : List ℕ
  pub date : List ℕ
  pub time : List ℕ
  pub expr : List ℕ

abbrev pub fields_of : List ℕ → Option Fields
fields_of line =
    option_and_then (λ from. option_and_then (λ to. option_and_then (λ date. option_map (λ time.
    record { from = from.0; to = to.0; date = date.0; time = time.0; expr = time.1 })
    (at_space date.1)) (at_space to.1)) (at_space from.1)) (at_space line)

-- what a query line says by itself, where its endpoints are such and the fields of date and time are not empty
pub record Shape : Type 0 where
  pub from : Endpoint
  pub to : Endpoint
  pub date : List ℕ
  pub time : List ℕ
  pub expr : List ℕ

abbrev pub is_filled : List ℕ → Bool
is_filled text = nat_lt 0 (length text)

abbrev pub shape_of_fields : Fields → Option Shape
shape_of_fields f =
    if is_filled f.date && is_filled f.time then
    option_and_then (λ from. option_map (λ to. record { from = from; to = to; date = f.date; time = f.time; expr = f.expr }) (endpoint_of f.to)) (endpoint_of f.from)
    else None

abbrev pub shape_of : List ℕ → Option Shape
shape_of line = option_and_then shape_of_fields (fields_of line)

-- a number of two digits below a limit
abbrev pub part_at : ℕ → ℕ → ℕ → Option ℕ
part_at below tens ones = option_and_then (λ n. if nat_lt n below then Some n else None) (fixed_at (tens ∷ ones ∷ []))

-- nothing, or a point and three digits
abbrev pub millis_at : List ℕ → Option ℕ
millis_at [] = Some 0
millis_at (point ∷ digits) = if (point == 46) && nat_eq (length digits) 3 then fixed_at digits else None

-- HH:MM:SS or HH:MM:SS.mmm, below 24:00:00, in milliseconds
abbrev pub time_at : List ℕ → Option ℕ
time_at (a ∷ b ∷ c ∷ d ∷ e ∷ f ∷ g ∷ h ∷ rest) =
    if (c == 58) && (f == 58) then
    option_and_then (λ hours. option_and_then (λ minutes. option_and_then (λ seconds.
    option_map (λ ms. ((hours * 60 + minutes) * 60 + seconds) * 1000 + ms)
    (millis_at rest)) (part_at 60 g h)) (part_at 60 d e)) (part_at 24 a b)
    else None
time_at _ = None

-- when a query departs: at the base of the day of its date and the time of day. Its date is one of the region's days, and no lead day
abbrev pub departure_on : DaysMeaning → ℕ → ℕ → Option ℕ
departure_on days date ms = option_and_then (λ day. if nat_le 7 day then Some (base_of days day + ms) else None) (day_with_date days date)

-- when the date and the time of day are such and the region has the date; or what is wrong with them
abbrev pub departs_on : DaysMeaning → Option ℕ → Option ℕ → Result ℕ QueryFault
departs_on days (Some date) (Some ms) = ok_or (departure_on days date ms) OutOfRange
departs_on days (Some date) None = Err BadClock
departs_on days None time = Err BadClock

abbrev pub departs_at : DaysMeaning → Shape → Result ℕ QueryFault
departs_at days shape = departs_on days (date_at shape.date) (time_at shape.time)
