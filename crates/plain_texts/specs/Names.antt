-- Names of stops and trips.
use Rattle.std.specs.Prelude.{ℕ, ◌^◌, List, length, Bool, ◌&&◌, not, nat_lt, nat_eq, Option, Some, None, if◌then◌else◌}
use Rattle.std.specs.List.{list_all}

-- any byte but the control characters, the space and the delete character
abbrev pub is_name_byte : ℕ → Bool
is_name_byte b = nat_lt 32 b && not (nat_eq b 127)

-- one or more such bytes, fewer than 2 ^ 32
unfoldable pub is_name : List ℕ → Bool
is_name bytes = nat_lt 0 (length bytes) && (nat_lt (length bytes) (2 ^ 32) && list_all is_name_byte bytes)

-- the name that the bytes are
abbrev pub name_of : List ℕ → Option (List ℕ)
name_of bytes = if is_name bytes then Some bytes else None
