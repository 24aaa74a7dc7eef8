-- What an expression is, and the words that it denotes.
use Rattle.std.specs.Prelude.{◌≡◌, ℕ, ◌+◌, ◌*◌, ◌≤◌, ◌⊎◌, ◌++◌, List, [], ◌∷◌, Option, Some, None, IfSome, IsBitSet, suc, zero}
use Rattle.search_laws.specs.{IsLetterSet}
pub use Rattle.mode_expression.specs.declared.expr.Expr.{Expr, Letters, Seq', Alt', Repeat', Row_of-Expr, end_of-Expr, more_of-Expr}

-- An expression as contracts see it. A sequence is `both` of its first part and the rest, up to `empty`,
-- and an alternative is `either` of its first part and the rest, up to `never`.
pub data Form : Type 0 where
  letters : ℕ → Form
  empty : Form
  both : Form → Form → Form
  never : Form
  either : Form → Form → Form
  repeated : Form → ℕ → Option ℕ → Form

-- the parts one after the other
abbrev pub in_turn : List Form → Form
in_turn [] = empty
in_turn (part ∷ parts) = both part (in_turn parts)

-- one of the parts
abbrev pub one_of : List Form → Form
one_of [] = never
one_of (part ∷ parts) = either part (one_of parts)

-- the form of an expression in memory
abbrev mutual
  pub form_of : Expr → Form
  form_of (Letters bits) = letters bits
  form_of (Seq' shape parts) = form_in_turn parts
  form_of (Alt' shape parts) = form_of_one parts
  form_of (Repeat' pointer part least most) = repeated (form_of part) least most

  pub form_in_turn : {n : _} → Row_of-Expr n → Form
  form_in_turn end_of-Expr = empty
  form_in_turn (more_of-Expr part parts) = both (form_of part) (form_in_turn parts)

  pub form_of_one : {n : _} → Row_of-Expr n → Form
  form_of_one end_of-Expr = never
  form_of_one (more_of-Expr part parts) = either (form_of part) (form_of_one parts)

-- a word of P, and then one of Q
abbrev pub IsJoined : (List ℕ → Type 0) → (List ℕ → Type 0) → List ℕ → Type 0
IsJoined P Q word = (front : List ℕ) × (back : List ℕ) × (word ≡ front ++ back) × P front × Q back

-- k words of P, one after the other
abbrev pub IsPower : (List ℕ → Type 0) → ℕ → List ℕ → Type 0
IsPower P zero word = word ≡ []
IsPower P (suc k) word = IsJoined P (IsPower P k) word

-- a form denotes a word
abbrev pub IsWordOf : Form → List ℕ → Type 0
IsWordOf (letters bits) word = (c : ℕ) × (word ≡ c ∷ []) × IsBitSet bits c
IsWordOf empty word = word ≡ []
IsWordOf (both first rest) word = IsJoined (IsWordOf first) (IsWordOf rest) word
IsWordOf never word = ⊥
IsWordOf (either first rest) word = IsWordOf first word ⊎ IsWordOf rest word
IsWordOf (repeated part least most) word =
    (k : ℕ) × (least ≤ k) × IfSome most (λ m. k ≤ m) × IsPower (IsWordOf part) k word

-- an expression denotes a word
abbrev pub Denotes : Expr → List ℕ → Type 0
Denotes expr word = IsWordOf (form_of expr) word

-- how often the part of a repetition is written out
abbrev pub copies : Option ℕ → ℕ
copies None = 1
copies (Some n) = n

-- the places of letters when `{m,n}` is written out as n copies
abbrev pub places : Form → ℕ
places (letters bits) = 1
places empty = 0
places (both first rest) = places first + places rest
places never = 0
places (either first rest) = places first + places rest
places (repeated part least most) = copies most * places part

-- what a suffix may say: from 0 or 1 on, or up to an upper bound of at least 1
abbrev pub IsCount : ℕ → Option ℕ → Type 0
IsCount least None = least ≤ 1
IsCount least (Some most) = (1 ≤ most) × (least ≤ most)

-- letters are among the fourteen, and each repetition is one that a suffix may say
abbrev pub IsWellFormed : Form → Type 0
IsWellFormed (letters bits) = IsLetterSet bits
IsWellFormed empty = Unit {0}
IsWellFormed (both first rest) = IsWellFormed first × IsWellFormed rest
IsWellFormed never = Unit {0}
IsWellFormed (either first rest) = IsWellFormed first × IsWellFormed rest
IsWellFormed (repeated part least most) = IsWellFormed part × IsCount least most

-- what texts spell: well formed, with at most 200 places of letters
pub record IsUsable (form : Form) : Type 0 where
  pub formed : IsWellFormed form
  pub small : places form ≤ 200
