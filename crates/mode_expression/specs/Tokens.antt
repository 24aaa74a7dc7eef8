-- The tokens of an expression's text.
use Rattle.std.specs.Prelude.{ℕ, ◌+◌, ◌*◌, ◌-◌, Bool, false, ◌&&◌, ◌||◌, ◌==◌, nat_le, List, [], ◌∷◌, Option, Some, None, length, fold, map, if◌then◌else◌}
pub use Rattle.mode_expression.specs.{declared.token.Token.Token, declared.token.Token.TheVariants.Name, declared.token.Token.TheVariants.Number, declared.token.Token.TheVariants.Bar, declared.token.Token.TheVariants.Star, declared.token.Token.TheVariants.Plus, declared.token.Token.TheVariants.Question, declared.token.Token.TheVariants.OpenBrace, declared.token.Token.TheVariants.CloseBrace, declared.token.Token.TheVariants.Comma, declared.token.Token.TheVariants.Open, declared.token.Token.TheVariants.Close, declared.token.Token.TheVariants.Unknown}
use Rattle.mode_expression.specs.Letters.{letters_named}

abbrev pub is_lower : ℕ → Bool
is_lower c = nat_le 97 c && nat_le c 122

abbrev pub is_digit : ℕ → Bool
is_digit c = nat_le 48 c && nat_le c 57

-- a token's bytes, and where they begin in the text
pub record Lexeme : Type 0 where
  pub at : ℕ
  pub bytes : List ℕ

-- a byte belongs to the run of the byte after it
abbrev pub joins : ℕ → List ℕ → Bool
joins c [] = false
joins c (d ∷ text) = (is_lower c && is_lower d) || (is_digit c && is_digit d)

-- the first lexeme with one more byte in front of it
abbrev pub widened : ℕ → ℕ → List Lexeme → List Lexeme
widened at c [] = []
widened at c (lexeme ∷ lexemes) = record { at = at; bytes = c ∷ lexeme.bytes } ∷ lexemes

-- A longest run of `a` to `z`, or of digits, is one lexeme, and so is each other byte but a space. `at` is the
-- place of the first byte.
abbrev pub lexemes : ℕ → List ℕ → List Lexeme
lexemes at [] = []
lexemes at (c ∷ text) =
    if c == 32 then lexemes (at + 1) text
    else (if joins c text then widened at c (lexemes (at + 1) text)
    else record { at = at; bytes = c ∷ [] } ∷ lexemes (at + 1) text)

-- the value of decimal digits
abbrev pub decimal : List ℕ → ℕ
decimal digits = fold (λ value digit. 10 * value + (digit - 48)) 0 digits

abbrev pub symbol_token : ℕ → Token
symbol_token c =
    if c == 124 then Bar else (if c == 42 then Star else (if c == 43 then Plus else (if c == 63 then Question
    else (if c == 123 then OpenBrace else (if c == 125 then CloseBrace else (if c == 44 then Comma
    else (if c == 40 then Open else (if c == 41 then Close else Unknown))))))))

abbrev pub name_token : Option ℕ → Token
name_token None = Unknown
name_token (Some bits) = Name bits

-- the token of a lexeme: a number has at most four digits
abbrev pub token_of : List ℕ → Token
token_of [] = Unknown
token_of (c ∷ bytes) =
    if is_lower c then name_token (letters_named (c ∷ bytes))
    else (if is_digit c then (if nat_le (length (c ∷ bytes)) 4 then Number (decimal (c ∷ bytes)) else Unknown)
    else symbol_token c)

-- a token, and the offset of its first byte
pub record Placed : Type 0 where
  pub at : ℕ
  pub token : Token

abbrev pub placed_token : Lexeme → Placed
placed_token lexeme = record { at = lexeme.at; token = token_of lexeme.bytes }

-- the tokens of a text whose first byte stands at `at`
abbrev pub tokens_from : ℕ → List ℕ → List Placed
tokens_from at text = map placed_token (lexemes at text)

abbrev pub tokens_of : List ℕ → List Placed
tokens_of text = tokens_from 0 text
