-- Which expression a text spells, or why it spells none.
use Rattle.std.specs.Prelude.{◌≡◌, ℕ, ◌+◌, ◌≤◌, ◌<◌, ◌^◌, ◌⊎◌, ◌++◌, ◌==◌, List, [], ◌∷◌, Some, length, map, take, count_by, slice_get, min, Result, Ok, Err}
pub use Rattle.mode_expression.specs.{declared.fault.ExprFault.ExprFault, declared.fault.ExprFault.TheVariants.TooLong, declared.fault.ExprFault.TheVariants.TooDeep, declared.fault.ExprFault.TheVariants.Syntax, declared.fault.ExprFault.TheVariants.TooLarge, declared.fault.ExprFault.TheVariants.OutOfMemory}
use Rattle.mode_expression.specs.{declared.token.Token.Token, Form.Form, Form.IsUsable, Form.places, Grammar.IsSentence, Grammar.BeginsSentence, Tokens.Placed, Tokens.tokens_of, inside.Machine.empty_reading, inside.Machine.read_from}

abbrev pub token : Placed → Token
token t = t.token

-- the text's tokens are a sentence of the grammar
abbrev pub Spells : List ℕ → Form → Type 0
Spells text form = IsSentence (map token (tokens_of text)) form

-- a `(` before which `(` outnumber `)` by 64 or more
abbrev pub IsTooDeepAt : List ℕ → ℕ → Type 0
IsTooDeepAt text k =
    (slice_get text k ≡ Some 40) × (count_by (λ c. c == 41) (take k text) + 64 ≤ count_by (λ c. c == 40) (take k text))

abbrev pub IsShallow : List ℕ → Type 0
IsShallow text = (k : ℕ) → IsTooDeepAt text k → ⊥

-- a token that no sentence can go on with, after tokens that begin one
pub record IsMisplaced (text : List ℕ) (at : ℕ) : Type 0 where
  pub before : List Placed
  pub here : Placed
  pub after : List Placed
  pub split : tokens_of text ≡ before ++ here ∷ after
  pub begins : BeginsSentence (map token before)
  pub ends : BeginsSentence (map token before ++ here.token ∷ []) → ⊥
  pub place : at ≡ here.at

-- all tokens begin a sentence, and they are none
pub record IsUnfinished (text : List ℕ) (at : ℕ) : Type 0 where
  pub begins : BeginsSentence (map token (tokens_of text))
  pub none : (form : Form) → Spells text form → ⊥
  pub place : at ≡ length text

-- The expression of the text's tokens, or the offset of the first token that no sentence can go on with; the length of
-- the text where its tokens begin a sentence and are none.
abbrev pub IsReadAs : List ℕ → Result Form ℕ → Type 0
IsReadAs text (Ok form) = Spells text form
IsReadAs text (Err at) = IsMisplaced text at ⊎ IsUnfinished text at

-- what reading the text a token at a time gives
abbrev pub reading_of : List ℕ → Result Form ℕ
reading_of text = read_from (length text) empty_reading (tokens_of text)

-- the text is the expression
pub record IsExpression (text : List ℕ) (form : Form) : Type 0 where
  pub short : length text ≤ 4096
  pub shallow : IsShallow text
  pub spells : Spells text form
  pub small : places form ≤ 200

-- the text's first fault
abbrev pub IsFault : List ℕ → ExprFault → Type 0
IsFault text (TooLong bytes) = (4096 < length text) × (bytes ≡ length text)
IsFault text (TooDeep at) =
    (length text ≤ 4096) × IsTooDeepAt text at × ((k : ℕ) → k < at → IsTooDeepAt text k → ⊥)
IsFault text (Syntax at) = (length text ≤ 4096) × IsShallow text × IsReadAs text (Err at)
IsFault text (TooLarge count) =
    (length text ≤ 4096) × IsShallow text
    × ((form : Form) × Spells text form × (200 < places form) × (count ≡ min (places form) (2 ^ 32)))
IsFault text OutOfMemory = ⊥

-- what a text gives: its expression, or its first fault
abbrev pub IsParse : List ℕ → Result Form ExprFault → Type 0
IsParse text (Ok form) = IsExpression text form
IsParse text (Err fault) = IsFault text fault

-- a text gives no two things
abbrev pub OutcomeIsUnique : Type 0
OutcomeIsUnique = (text : List ℕ) (one other : Result Form ExprFault) → IsParse text one → IsParse text other → one ≡ other

-- and each gives one
abbrev pub OutcomeExists : Type 0
OutcomeExists = (text : List ℕ) → (outcome : Result Form ExprFault) × IsParse text outcome

-- a text spells only what an automaton can be made of
abbrev pub ExpressionsAreUsable : Type 0
ExpressionsAreUsable = (text : List ℕ) (form : Form) → IsExpression text form → IsUsable form

-- the fault is the one that reading the text gives, or memory was refused
abbrev pub ReadsAs : List ℕ → ExprFault → Type 0
ReadsAs text (Syntax at) = reading_of text ≡ Err at
ReadsAs text OutOfMemory = Unit {0}
ReadsAs text _ = ⊥
