-- An expression written out, and its positions: the places of letters, numbered from the left.
use Rattle.std.specs.Prelude.{◌≡◌, ℕ, zero, suc, ◌+◌, ◌-◌, Bool, true, false, ◌&&◌, ◌||◌, ◌==◌, ◌⊎◌, List, [], ◌∷◌, ◌++◌, Option, Some, None, IsBitSet}
use Rattle.mode_expression.specs.{Form.Form, letters, empty, both, never, either, repeated, IsJoined, IsPower}

-- `nothing` is the empty word, `nowhere` no word, `optional` a part or nothing, and `plus` a part one or more times.
pub data Written : Type 0 where
  nothing : Written
  nowhere : Written
  letter : ℕ → Written
  sequence : Written → Written → Written
  choice : Written → Written → Written
  optional : Written → Written
  plus : Written → Written

-- n copies, one after the other
abbrev pub copies_in_turn : ℕ → Written → Written
copies_in_turn zero part = nothing
copies_in_turn (suc n) part = sequence part (copies_in_turn n part)

-- n nested options: `(e(e)?)?` is two
abbrev pub options : ℕ → Written → Written
options zero part = nothing
options (suc n) part = optional (sequence part (options n part))

-- a part repeated without an upper bound, from 0 or from 1 on
abbrev pub unbounded : ℕ → Written → Written
unbounded zero part = optional (plus part)
unbounded (suc _) part = plus part

abbrev pub repeat : Written → ℕ → Option ℕ → Written
repeat part least None = unbounded least part
repeat part least (Some most) = sequence (copies_in_turn least part) (options (most - least) part)

-- an expression written out
abbrev pub written : Form → Written
written (letters bits) = letter bits
written empty = nothing
written (both first rest) = sequence (written first) (written rest)
written never = nowhere
written (either first rest) = choice (written first) (written rest)
written (repeated part least most) = repeat (written part) least most

-- the number of positions
abbrev pub size : Written → ℕ
size nothing = 0
size nowhere = 0
size (letter bits) = 1
size (sequence a b) = size a + size b
size (choice a b) = size a + size b
size (optional a) = size a
size (plus a) = size a

-- the empty word is denoted
abbrev pub nullable : Written → Bool
nullable nothing = true
nullable nowhere = false
nullable (letter bits) = false
nullable (sequence a b) = nullable a && nullable b
nullable (choice a b) = nullable a || nullable b
nullable (optional a) = true
nullable (plus a) = nullable a

-- Below, the positions of a part are numbered from o + 1 on.

-- the position p may be read first
abbrev pub first : Written → ℕ → ℕ → Bool
first nothing o p = false
first nowhere o p = false
first (letter bits) o p = p == o + 1
first (sequence a b) o p = first a o p || (nullable a && first b (o + size a) p)
first (choice a b) o p = first a o p || first b (o + size a) p
first (optional a) o p = first a o p
first (plus a) o p = first a o p

-- the position p may be read last
abbrev pub last : Written → ℕ → ℕ → Bool
last nothing o p = false
last nowhere o p = false
last (letter bits) o p = p == o + 1
last (sequence a b) o p = (last a o p && nullable b) || last b (o + size a) p
last (choice a b) o p = last a o p || last b (o + size a) p
last (optional a) o p = last a o p
last (plus a) o p = last a o p

-- the position q may be read right after the position p
abbrev pub follow : Written → ℕ → ℕ → ℕ → Bool
follow nothing o p q = false
follow nowhere o p q = false
follow (letter bits) o p q = false
follow (sequence a b) o p q = follow a o p q || follow b (o + size a) p q || (last a o p && first b (o + size a) q)
follow (choice a b) o p q = follow a o p q || follow b (o + size a) p q
follow (optional a) o p q = follow a o p q
follow (plus a) o p q = follow a o p q || (last a o p && first a o q)

-- the letters of the positions, in order
abbrev pub letters_written : Written → List ℕ
letters_written nothing = []
letters_written nowhere = []
letters_written (letter bits) = bits ∷ []
letters_written (sequence a b) = letters_written a ++ letters_written b
letters_written (choice a b) = letters_written a ++ letters_written b
letters_written (optional a) = letters_written a
letters_written (plus a) = letters_written a

-- the words of what is written out
abbrev pub IsWritten : Written → List ℕ → Type 0
IsWritten nothing word = word ≡ []
IsWritten nowhere word = ⊥
IsWritten (letter bits) word = (c : ℕ) × (word ≡ c ∷ []) × IsBitSet bits c
IsWritten (sequence a b) word = IsJoined (IsWritten a) (IsWritten b) word
IsWritten (choice a b) word = IsWritten a word ⊎ IsWritten b word
IsWritten (optional a) word = (word ≡ []) ⊎ IsWritten a word
IsWritten (plus a) word = (k : ℕ) × IsPower (IsWritten a) (suc k) word
