-- Whole roots.
use Rattle.std.specs.Prelude.{ℕ, zero, suc, ◌+◌, ◌*◌, ◌<◌, ◌≤◌, nat_le, if◌then◌else◌}

-- r is the whole root of s, rounded down
pub record IsRoot (s r : ℕ) : Type 0 where
  pub square : r * r ≤ s
  pub next : s < (r + 1) * (r + 1)

-- the greatest number up to a bound whose square is at most s
unfoldable pub root_up_to : ℕ → ℕ → ℕ
root_up_to s zero = 0
root_up_to s (suc r) = if nat_le ((r + 1) * (r + 1)) s then r + 1 else root_up_to s r

-- the whole root of s: the greatest number whose square is at most s
unfoldable pub root : ℕ → ℕ
root s = root_up_to s s
