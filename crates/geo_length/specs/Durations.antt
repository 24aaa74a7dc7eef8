-- How long a length takes.
use Rattle.std.specs.Prelude.{ℕ, ◌*◌, ◌^◌, max, nat_lt, Option, Some, None, if◌then◌else◌}
use Rattle.std.specs.Int.{div_ceil}

-- the milliseconds that so many millimetres take at so many millimetres a second, rounded up, at least 1;
-- none where they are 2^32 or more
unfoldable pub duration_of : ℕ → ℕ → Option ℕ
duration_of mm speed =
    let ms = max 1 (div_ceil (mm * 1000) speed) in if nat_lt ms (2 ^ 32) then Some ms else None
