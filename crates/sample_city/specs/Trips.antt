-- The trips of the sample city.
use Rattle.std.specs.Prelude.{ℕ, ◌+◌, ◌*◌, List, [], ◌∷◌, ◌++◌, length, map, nat_eq, nat_le, true, Option, option_to_list, option_map, unwrap_or, if◌then◌else◌, position, flat_map}
use Rattle.plain_texts.specs.{name_of}
use Rattle.timetable_arcs.specs.{TripLists, Call}
use Rattle.sample_city.specs.{Corners.crossing, Corners.lines, Corners.stop_lines, Stops.corner_text, declared.corners.Corner.Corner, declared.corners.Direction.Direction, declared.corners.Direction.TheVariants.Row, declared.corners.Direction.TheVariants.Column, declared.stops.CityStop.CityStop}
pub use Rattle.sample_city.specs.declared.trips.Fleet.{Fleet}

-- the number of the stop at a corner is its place among the stops
abbrev pub stop_place : List CityStop → Corner → Option ℕ
stop_place stops at = position (λ (stop : CityStop). nat_eq stop.id at.id) stops

abbrev pub corner_stop_number : List CityStop → Corner → ℕ
corner_stop_number stops at = unwrap_or (stop_place stops at) 0

-- at stop after stop, from this second on, 140 seconds apart, of which 20 are spent standing
abbrev pub calls_along : ℕ → List ℕ → List Call
calls_along time [] = []
calls_along time (stop ∷ stops) = record { stop = stop; arr = time; dep = time + 20; board = true; alight = true } ∷ calls_along (time + 140) stops

-- all ten days are bits 0 to 9
abbrev pub trip_in : ℕ → ℕ → List ℕ → Option (List ℕ) → Option TripLists
trip_in letter time stops name = option_map (λ name. record { letter = letter; days = record { 0 = 1023 }; name = name; calls = calls_along time stops }) name

-- the trip number j of a fleet along a line, with these stops
abbrev pub trip_along : Fleet → ℕ → List ℕ → ℕ → List TripLists
trip_along fleet line stops j = option_to_list (trip_in fleet.letter (18000 + fleet.every * j) stops (name_of (corner_text fleet.head line j)))

abbrev pub line_trips : Fleet → ℕ → List ℕ → List TripLists
line_trips fleet line stops = flat_map (trip_along fleet line stops) (lines fleet.trips)

-- along the lines of one way, with stops at these lines of the other
abbrev pub line_stops : ℕ → List CityStop → List ℕ → Direction → ℕ → List ℕ
line_stops n stops others way line = map (λ other. corner_stop_number stops (crossing n way line other)) others

abbrev pub fleet_trips : ℕ → List CityStop → List ℕ → Fleet → List TripLists
fleet_trips n stops stopped fleet = flat_map (λ line. line_trips fleet line (line_stops n stops stopped fleet.way line)) stopped

-- the bytes that the names of their trips begin with: B and T
abbrev pub bus_head : ℕ
bus_head = 66

abbrev pub tram_head : ℕ
tram_head = 84

-- letter 6 is the bus, and 3 is the tram
abbrev pub buses : Fleet
buses = record { letter = 6; head = bus_head; every = 600; trips = 108; way = Row }

abbrev pub trams : Fleet
trams = record { letter = 3; head = tram_head; every = 900; trips = 72; way = Column }

-- along these lines, where there are two or more
abbrev pub trips_along : ℕ → List CityStop → List ℕ → List TripLists
trips_along n stops stopped = if nat_le 2 (length stopped) then fleet_trips n stops stopped buses ++ fleet_trips n stops stopped trams else []

abbrev pub city_trips : ℕ → List CityStop → List TripLists
city_trips n stops = trips_along n stops (stop_lines n)
