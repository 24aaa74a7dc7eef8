-- How the rows are listed one after the other.
use Rattle.std.specs.Prelude.{ℕ, ◌+◌, ◌-◌, max, Bool, true, nat_lt, ◌&&◌, List, [], ◌∷◌, ◌++◌, Option, Some, None, if◌then◌else◌}
use Rattle.departures.specs.{declared.row.Pair.Pair, declared.row.Row.Row}

-- From when on a search goes on after a pair that arrives first: later than that departs, and not so early that it would take as long as without a ride.
abbrev pub next_moment : Option ℕ → Pair → ℕ
next_moment None p = p.depart + 1
next_moment (Some c) p = max (p.depart + 1) (p.arrive + 1 - c)

-- a pair takes less time than it takes without a ride, if one can do without
abbrev pub is_shorter : Option ℕ → Pair → Bool
is_shorter None p = true
is_shorter (Some c) p = nat_lt (p.arrive - p.depart) c

-- the row arrives later than t, or there is none
abbrev pub is_later_row : Option Row → ℕ → Bool
is_later_row None t = true
is_later_row (Some row) t = nat_lt t row.pair.arrive

-- the rows with one more, if it takes less time than without a ride, and the next one arrives later
abbrev pub with_departure : Option ℕ → Option Row → Row → List Row → List Row
with_departure without next row rows = if is_shorter without row.pair && is_later_row next row.pair.arrive then rows ++ row ∷ [] else rows
