use Rattle.std.specs.Prelude.{ℤ, pos, neg_ℤ, ◌≤ℤ◌}

-- a latitude of at most 90 degrees and a longitude of at most 180, in units of 10^-7 degree
pub record AreDegrees (lat lon : ℤ) : Type 0 where
  pub south : neg_ℤ (pos 900000000) ≤ℤ lat
  pub north : lat ≤ℤ pos 900000000
  pub west : neg_ℤ (pos 1800000000) ≤ℤ lon
  pub east : lon ≤ℤ pos 1800000000
