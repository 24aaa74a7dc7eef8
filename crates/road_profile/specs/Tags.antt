-- Tags of ways: a key and a value each.
use Rattle.std.specs.Prelude.{ℕ, List, Bool, false, Option, Some, None, bytes_eq}
use Rattle.std.specs.List.{list_any}
use Rattle.std.specs.Map.{lookup}

-- the value of a key
unfoldable pub value_of : List (List ℕ × List ℕ) → List ℕ → Option (List ℕ)
value_of tags key = lookup (λ other. bytes_eq other key) tags

-- whether there is a value, and it is one of these
abbrev pub is_among : List (List ℕ) → Option (List ℕ) → Bool
is_among values None = false
is_among values (Some value) = list_any (λ other. bytes_eq value other) values
