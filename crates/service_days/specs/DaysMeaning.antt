use Rattle.std.specs.Prelude.{ℕ, List, Option}

-- the first date and the count of days; the base, in milliseconds of the region clock, and the date of each day number;
-- and the bytes of the zone rule, where the days have one
pub record DaysMeaning : Type 0 where
  pub first : ℕ
  pub count : ℕ
  pub bases : List ℕ
  pub dates : List ℕ
  pub zone : Option (List ℕ)
