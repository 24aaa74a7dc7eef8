use Rattle.std.specs.Prelude.{ℕ, Bool, ◌==◌}
use Rattle.std.specs.Int.{bit_at}
pub use Rattle.plan_base.specs.declared.days.DaySet.{DaySet}

-- whether a set of days has this day: its bit is set
abbrev pub contains_day : DaySet → ℕ → Bool
contains_day set day = bit_at set.0 day == 1
