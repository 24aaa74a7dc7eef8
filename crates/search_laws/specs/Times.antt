-- The bound on the times of journeys and certificates.
use Rattle.std.specs.Prelude.{ℕ, ◌^◌}

-- a time that is read has at most 30 digits, so it is below
abbrev pub time_bound : ℕ
time_bound = 10 ^ 30
