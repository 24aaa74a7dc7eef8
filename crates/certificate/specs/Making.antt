-- What the lines of a text make, one put after the other; and what is wrong with bytes that make nothing. For every kind of certificates.
use Rattle.std.specs.Prelude.{◌≡◌, ℕ, ◌⊎◌, List, Bool, Option, Result, Ok, Err, fold, option_and_then, option_map}
use Rattle.plain_texts.specs.{pieces, whole, bad, trailing, lines_from, IsFirstBad, IsTrailing, Course.Course}
pub use Rattle.certificate.specs.{declared.verdict.CertFault.CertFault, declared.verdict.CertFault.TheVariants.BadLine, declared.verdict.CertFault.TheVariants.OutOfMemory}

-- what all lines of a course make, or its fault
abbrev pub made_by : {L M : Type 0} → (M → L → M) → M → Course L → Result M CertFault
made_by put nothing (whole lines) = Ok (fold put nothing lines)
made_by put nothing (bad at) = Err (BadLine at)
made_by put nothing (trailing at) = Err (BadLine at)

-- What the texts of a kind of certificates are read by: the line that a text spells; what is due behind a line, if it may stand at a place; which place
-- is the last, and what is due first; the certificate that says nothing yet, and what it is with one line more.
pub record LinedMeaning (L P M : Type 0) : Type 0 where
  pub line_of : List ℕ → Option L
  pub due_behind : P → L → Option P
  pub is_last : P → Bool
  pub first : P
  pub nothing : M
  pub put : M → L → M

-- the line that a text spells, if it may stand here, and what is due behind it
unfoldable pub line_at : {L P M : Type 0} → LinedMeaning L P M → P → List ℕ → Option (L × P)
line_at kind place text = option_and_then (λ l. option_map (λ next. (l, next)) (kind.due_behind place l)) (kind.line_of text)

-- what bytes spell: a certificate of the kind, or the first line that may not stand where it does
abbrev pub reading : {L P M : Type 0} → LinedMeaning L P M → List ℕ → Result M CertFault
reading kind bytes = made_by kind.put kind.nothing (lines_from (line_at kind) kind.is_last kind.first 1 (pieces bytes))

-- What a function returned is what is defined, unless memory ran out.
abbrev pub Gives : {M : Type 0} → Result M CertFault → Result M CertFault → Type 0
Gives (Ok made) defined = defined ≡ Ok made
Gives (Err OutOfMemory) defined = Unit {0}
Gives (Err (BadLine at)) defined = defined ≡ Err (BadLine at)

-- Why bytes are refused: this line is the first that may not stand where it does, or bytes follow the end, where this line would be. That memory ran out has no cause.
abbrev pub IsCause : {L P : Type 0} → (L → List ℕ) → (L → Type 0) → (P → L → Option P) → (P → Bool) → P → List ℕ → CertFault → Type 0
IsCause spell Fits after is_last first bytes (BadLine at) = IsFirstBad spell Fits after is_last first 1 (pieces bytes) at ⊎ IsTrailing spell Fits after is_last first 1 (pieces bytes) at
IsCause spell Fits after is_last first bytes OutOfMemory = Unit {0}
