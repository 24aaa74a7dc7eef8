use Rattle.std.specs.Prelude.{ℕ, ◌+◌, ◌*◌, unsigned_abs}
use Rattle.jiff_core.specs.declared.civil.date.Date.{Date}

-- the number that stands for a date
abbrev pub number_of_date : Date → ℕ
number_of_date date = unsigned_abs date.year * 10000 + date.month * 100 + date.day
