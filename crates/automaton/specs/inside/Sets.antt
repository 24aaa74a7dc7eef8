-- The positions of a set.
use Rattle.std.specs.Prelude.{ℕ, ◌-◌, Bool, ◌==◌, nat_lt, if◌then◌else◌}
use Rattle.std.specs.Int.{bit_at}
use Rattle.automaton.specs.declared.position_set.PositionSet.{PositionSet}

abbrev pub has : PositionSet → ℕ → Bool
has set position = if nat_lt position 128 then bit_at set.low position == 1 else bit_at set.high (position - 128) == 1
