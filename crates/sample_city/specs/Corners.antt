-- The corners of the sample city: a grid of n rows and n columns.
use Rattle.std.specs.Prelude.{ℕ, pos, ◌+◌, ◌*◌, ◌%◌, List, filter, map, nat_eq, Bool, ◌||◌, Option, flat_map}
use Rattle.std.specs.List.{range_with_len}
use Rattle.plan_base.specs.{place_of, Place}
pub use Rattle.sample_city.specs.{declared.corners.Corner.Corner, declared.corners.Direction.Direction, declared.corners.Direction.TheVariants.Row, declared.corners.Direction.TheVariants.Column}

-- the rows, and the columns, from 0
abbrev pub lines : ℕ → List ℕ
lines n = range_with_len 0 n

-- a corner, and the OSM id of the nodes there
abbrev pub corner : ℕ → ℕ → ℕ → Corner
corner n row column = record { row = row; column = column; id = 1 + row * n + column }

-- where a line of one way and another of the other way cross
abbrev pub crossing : ℕ → Direction → ℕ → ℕ → Corner
crossing n Row line other = corner n line other
crossing n Column line other = corner n other line

-- all corners, row by row
abbrev pub corners : ℕ → List Corner
corners n = flat_map (λ row. map (corner n row) (lines n)) (lines n)

abbrev pub corner_place : Corner → Option Place
corner_place at = place_of (pos (480000000 + 10000 * at.row)) (pos (110000000 + 10000 * at.column))

-- cars drive along each third line
abbrev pub is_car_line : ℕ → Bool
is_car_line line = nat_eq (line % 3) 0

abbrev pub has_cars : Corner → Bool
has_cars at = is_car_line at.row || is_car_line at.column

-- where two such lines cross, there is a stop
abbrev pub is_stop_line : ℕ → Bool
is_stop_line line = nat_eq (line % 3) 1

abbrev pub stop_lines : ℕ → List ℕ
stop_lines n = filter is_stop_line (lines n)
