-- Nodes of a hierarchy with what leads down among them.
use Rattle.std.specs.Prelude.{ℕ, ◌+◌, ◌-◌, ◌^◌, ◌<◌, List, length, Contains}
use Rattle.search_laws.specs.{Leg}
pub use Rattle.sweeps.specs.declared.slope.Slope.{Slope}
use Rattle.sweeps.specs.{Rows.row_at, Sweeps.time_at}

abbrev pub leg_by : ℕ → ℕ → Leg
leg_by place ms = record { to = place; ms = ms }

-- a leg leads from place i down to place j, in whose row it stands
abbrev pub LeadsDown : Slope → ℕ → ℕ → ℕ → Type 0
LeadsDown s i j w = (j < length s.nodes.items) × Contains (row_at s.downs j) (leg_by i w)

-- a leg more after a time that is not never is not so long after it that it were
abbrev pub HasRoom : Slope → List ℕ → Type 0
HasRoom s times = (i j w : ℕ) → LeadsDown s i j w → time_at times i < 2 ^ 32 - 1 → time_at times i + w < 2 ^ 32 - 1
