use Rattle.std.specs.Prelude.{◌≡◌, ℕ, List, ◌++◌, take, Option, Some, IfSome}

-- what was written to a sink, where it tells, and how often writing failed
pub record SinkMeaning : Type 0 where
  pub bytes : Option (List ℕ)
  pub faults : ℕ

-- the piece was appended; of a sink that tells nothing this says nothing
abbrev pub Appended : SinkMeaning → SinkMeaning → List ℕ → Type 0
Appended old new piece = IfSome old.bytes (λ bytes. new.bytes ≡ Some (bytes ++ piece))

-- what was told stays
abbrev pub Stays : SinkMeaning → SinkMeaning → Type 0
Stays old new = IfSome old.bytes (λ bytes. new.bytes ≡ Some bytes)

-- a front of the piece was appended
pub record AppendedPart (old new : SinkMeaning) (piece : List ℕ) : Type 0 where
  pub count : ℕ
  pub front : Appended old new (take count piece)
