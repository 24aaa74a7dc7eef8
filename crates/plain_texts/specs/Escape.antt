-- The escape by which an id of a feed becomes a name. An id is UTF-8, in which a byte below 128 is always a character
-- of its own, so the rule on characters is one on bytes.
use Rattle.std.specs.Prelude.{ℕ, List, [], ◌∷◌, ◌++◌, Bool, ◌&&◌, not, nat_lt, nat_eq, codes, if◌then◌else◌, flat_map}
use Rattle.plain_texts.specs.Hexadecimal.{hexadecimal}

-- the control characters, the space, `%` and the delete character do not stand for themselves
abbrev pub is_plain : ℕ → Bool
is_plain b = nat_lt 32 b && (not (nat_eq b 37) && not (nat_eq b 127))

-- the code of a character in lower-case hexadecimal digits, without leading zeros
abbrev pub code_of : ℕ → List ℕ
code_of b = if nat_eq b 0 then codes "0" else hexadecimal b

-- a byte as it stands, or its code between two `%`
abbrev pub escaped_byte : ℕ → List ℕ
escaped_byte b = if is_plain b then b ∷ [] else codes "%" ++ code_of b ++ codes "%"

-- the name of an id
unfoldable pub escaped : List ℕ → List ℕ
escaped id = flat_map escaped_byte id
