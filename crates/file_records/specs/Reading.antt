-- What is read of bytes is a value and the bytes behind it; or it is how many bytes are left at the first record that may not
-- stand there.
use Rattle.std.specs.Prelude.{◌≡◌, ℕ, List, ◌∷◌, length, Option, Some, None, Result, Ok, Err}
pub use Rattle.file_records.specs.{declared.halt.Halt.Halt, declared.halt.Halt.TheVariants.Memory, declared.halt.Halt.TheVariants.Left}

infixl 10 ◌>>=◌
abbrev pub ◌>>=◌ : {A B : Type 0} → Result A ℕ → (A → Result B ℕ) → Result B ℕ
(Ok x) >>= next = next x
(Err left) >>= next = Err left

abbrev pub or_left : {X : Type 0} → ℕ → Option X → Result X ℕ
or_left left None = Err left
or_left left (Some x) = Ok x

-- the record at the front
abbrev pub one : {X : Type 0} → (List ℕ → Option (X × List ℕ)) → List ℕ → Result (X × List ℕ) ℕ
one front bytes = or_left (length bytes) (front bytes)

-- a record before others
abbrev pub with_first : {X : Type 0} → X → Result (List X × List ℕ) ℕ → Result (List X × List ℕ) ℕ
with_first x (Ok others) = Ok (x ∷ others.0, others.1)
with_first x (Err left) = Err left

-- Why the reading of a function stopped is why reading does, unless memory ran out.
abbrev pub HaltsAs : {Y : Type 0} → Halt → Result Y ℕ → Type 0
HaltsAs Memory read = Unit {0}
HaltsAs (Left left) read = read ≡ Err left

-- What a function returned, seen by view, is what reading gives, unless memory ran out.
abbrev pub GivesRead : {X Y : Type 0} → (X → Y) → Result X Halt → Result Y ℕ → Type 0
GivesRead view (Ok x) read = read ≡ Ok (view x)
GivesRead view (Err halt) read = HaltsAs halt read
