-- The length between two places, in millimetres, by whole numbers. Places are in units of 10^-7 degree, and
-- a degree of latitude is 111,320 m long.
use Rattle.std.specs.Prelude.{ℕ, ◌+◌, ◌-◌, ◌*◌, ◌/◌, ◌^◌, unsigned_abs, ◌+ℤ◌, ◌-ℤ◌, nat_lt, if◌then◌else◌}
use Rattle.plan_base.specs.{Place}
use Rattle.geo_length.specs.{Roots.root, Widths.width_at}

-- a difference of longitudes, the short way around
abbrev pub short_way_around : ℕ → ℕ
short_way_around difference = if nat_lt 1800000000 difference then 3600000000 - difference else difference

-- the whole degree of the mean latitude of two places, without its sign
abbrev pub mean_degree : Place → Place → ℕ
mean_degree a b = unsigned_abs (a.lat +ℤ b.lat) / 20000000

-- how far apart two places are to the north, and to the east
unfoldable pub northward : Place → Place → ℕ
northward a b = unsigned_abs (a.lat -ℤ b.lat) * 11132 / 1000

unfoldable pub eastward : Place → Place → ℕ
eastward a b = short_way_around (unsigned_abs (a.lon -ℤ b.lon)) * 11132 * width_at (mean_degree a b) / 10 ^ 7

-- the square of the length
abbrev pub square_between : Place → Place → ℕ
square_between a b = eastward a b * eastward a b + northward a b * northward a b

unfoldable pub length_between : Place → Place → ℕ
length_between a b = root (square_between a b)
