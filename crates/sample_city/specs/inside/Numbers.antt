-- Numbers that are noted once.
use Rattle.std.specs.Prelude.{ℕ, Bool, Option, None, Some, if◌then◌else◌}

-- the number that was noted, or else the new one, where it is this key's
abbrev pub number_if_here : Option ℕ → Bool → ℕ → Option ℕ
number_if_here (Some number) here new = Some number
number_if_here None here new = if here then Some new else None
