-- What it means to read a text exactly: every value has one spelling, and the reader knows them all.
use Rattle.std.specs.Prelude.{◌≡◌, Option, Some, None}

-- What was read: the text is the one spelling of a value that is allowed. Or nothing was: no value that
-- is allowed is spelled so.
abbrev pub IsReadBy : {X T : Type 0} → (X → T) → (X → Type 0) → T → Option X → Type 0
IsReadBy spell Allowed text (Some x) = Allowed x × (text ≡ spell x)
IsReadBy {X} spell Allowed text None = (x : X) → Allowed x → text ≡ spell x → ⊥
