-- The parts of a file, read from left to right; the clauses of private calls name it.
use Rattle.std.specs.Prelude.{ℕ, ◌≤◌, nat_le, List, length, take, drop, Option, Some, None, option_and_then, if◌then◌else◌, bytes_eq}
use Rattle.std.specs.Int.{w64}
use Rattle.file_records.specs.{number_front}
use Rattle.hierarchy_file.specs.{HFileFault, BadHead, BadRecord, Trailing, OutOfMemory}
use Rattle.core_file.specs.Files.{core_magic}

infixl 10 ◌>>=◌
abbrev pub ◌>>=◌ : {A B : Type 0} → Option A → (A → Option B) → Option B
o >>= f = option_and_then f o

-- the bytes behind the magic, where they begin with it
unfoldable pub behind_core_magic : List ℕ → Option (List ℕ)
behind_core_magic bytes = if bytes_eq (take (length core_magic) bytes) core_magic then Some (drop (length core_magic) bytes) else None

-- so many bytes and the rest, where there are so many
abbrev pub cut_at : ℕ × List ℕ → Option (List ℕ × List ℕ)
cut_at first = if nat_le first.0 (length first.1) then Some (take first.0 first.1, drop first.0 first.1) else None

-- the first part and the rest, where the bytes have them
unfoldable pub parts_of : List ℕ → Option (List ℕ × List ℕ)
parts_of bytes = do
  behind ← behind_core_magic bytes
  first ← number_front w64 behind
  cut_at first

-- the place that a fault tells is no greater than this
abbrev pub IsPlacedBy : ℕ → HFileFault → Type 0
IsPlacedBy most BadHead = Unit {0}
IsPlacedBy most (BadRecord at) = at ≤ most
IsPlacedBy most (Trailing at) = at ≤ most
IsPlacedBy most OutOfMemory = Unit {0}
