-- A number at the front of bytes, the highest byte first, with the bytes behind it; there is none where the bytes are cut short.
use Rattle.std.specs.Prelude.{ℕ, nat_lt, ℤ, List, length, take, drop, Option, Some, None, option_map, if◌then◌else◌}
use Rattle.std.specs.Int.{Width, byte_len, cast_signed, cast_unsigned, from_be_bytes, to_be_bytes}

abbrev pub number_front : Width → List ℕ → Option (ℕ × List ℕ)
number_front w bytes = if nat_lt (length bytes) (byte_len w) then None else Some (from_be_bytes w (take (byte_len w) bytes), drop (byte_len w) bytes)

-- a signed number is its two's complement
abbrev pub signed_front : Width → List ℕ → Option (ℤ × List ℕ)
signed_front w bytes = option_map (λ n. (cast_signed w n.0, n.1)) (number_front w bytes)

abbrev pub signed_bytes : Width → ℤ → List ℕ
signed_bytes w z = to_be_bytes w (cast_unsigned w z)
