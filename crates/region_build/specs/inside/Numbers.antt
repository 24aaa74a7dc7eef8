-- Numbers that are noted once.
use Rattle.std.specs.Prelude.{ℕ, nat_eq, Option, None, Some, if◌then◌else◌}

-- the number that was noted, or else that of one more key
abbrev pub number_with : Option ℕ → ℕ → ℕ → ℕ → Option ℕ
number_with (Some number) key new other = Some number
number_with None key new other = if nat_eq key other then Some new else None
