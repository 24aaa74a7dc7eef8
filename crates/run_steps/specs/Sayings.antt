-- What a run says by its outcome, put together from what it reads and what it writes.
use Rattle.std.specs.Prelude.{◌≡◌, ℕ, ◌<◌, ◌^◌, ◌⊎◌, ⊤, List, length, take, None, Result, Ok, Err, IsSomeAnd}
use Rattle.plan_base.specs.{Rose, ShelfMeaning, IsLater, Told, HasRead, SinkMeaning, Appended, Stays}
use Rattle.run_steps.specs.Scene.{Scene, SayingOf, with_shelf}
pub use Rattle.run_steps.specs.{declared.outcome.FileRole.FileRole, declared.outcome.FileRole.TheVariants.Region, declared.outcome.FileRole.TheVariants.Hierarchy, declared.outcome.Outcome.Outcome, declared.outcome.Outcome.TheVariants.Done, declared.outcome.Outcome.TheVariants.Missing, declared.outcome.Outcome.TheVariants.ReadFault, declared.outcome.Outcome.TheVariants.TooLong, declared.outcome.Outcome.TheVariants.WriteFault, declared.outcome.Outcome.TheVariants.OutOfMemory}

-- what is said of a run of the planner, by its outcome
abbrev pub Saying : Type 1
Saying = SayingOf ⊤ Outcome

-- how a step of a run ends the run, or that it goes on to its end
abbrev pub end_of : Result ⊤ Outcome → Outcome
end_of (Ok _) = Done
end_of (Err outcome) = outcome

-- ---- reading

-- a line of a file that is read line by line has at most so many bytes, and so has a file that is read whole
abbrev pub most_bytes : ℕ
most_bytes = 2 ^ 30

-- but regions and hierarchies may have more
abbrev pub most_of : FileRole → ℕ
most_of Region = 2 ^ 34
most_of Hierarchy = 2 ^ 34
most_of _ = most_bytes

-- why the file of this name, which has this role, was not read whole though it may be there
abbrev pub IsUnreadable : ShelfMeaning → ShelfMeaning → List ℕ → FileRole → Outcome → Type 0
IsUnreadable old new name file (ReadFault other) = (other ≡ file) × Rose old.faults new.faults
IsUnreadable old new name file (TooLong other) = (other ≡ file) × Told old name (λ held. IsSomeAnd held (λ bytes. most_of file < length bytes))
IsUnreadable old new name file OutOfMemory = Unit {0}
IsUnreadable old new name file _ = ⊥

-- a read missed the file; where the shelf tells, it has none of this name
abbrev pub IsAbsent : ShelfMeaning → ShelfMeaning → List ℕ → Type 0
IsAbsent old new name = Rose old.misses new.misses × Told old name (λ held. held ≡ None)

-- why the file of this name, which has this role, was not read whole
abbrev pub IsUnread : ShelfMeaning → ShelfMeaning → List ℕ → FileRole → Outcome → Type 0
IsUnread old new name file (Missing other) = (other ≡ file) × IsAbsent old new name
IsUnread old new name file outcome = IsUnreadable old new name file outcome

-- the run ends so, and nothing is written
abbrev pub Ends : Outcome → Saying
Ends end old new outcome = (outcome ≡ end) × Stays old.out new.out

-- the file was read whole, and the rest of the run says this of its bytes
pub record HasGoneOn (role : FileRole) (name : List ℕ) (rest : List ℕ → Saying) (old new : Scene ⊤) (outcome : Outcome) : Type 0 where
  pub bytes : List ℕ
  pub file : HasRead old.shelf name (most_of role) bytes
  pub mid : ShelfMeaning
  pub later : IsLater old.shelf mid
  pub says : rest bytes (with_shelf old mid) new outcome

-- a file is read: it was not read whole, or the rest says this of its bytes
abbrev pub OnFile : FileRole → List ℕ → (List ℕ → Saying) → Saying
OnFile file name rest old new outcome =
    (IsUnread old.shelf new.shelf name file outcome × Stays old.out new.out) ⊎ HasGoneOn file name rest old new outcome

-- ---- writing

-- the output was appended that has P
pub record HasWritten (P : List ℕ → Type 0) (before after : SinkMeaning) : Type 0 where
  pub out : List ℕ
  pub is : P out
  pub appended : Appended before after out

-- an output is written, whole where all is done; or a front of one
abbrev pub Writes : (List ℕ → Type 0) → (List ℕ → Type 0) → Saying
Writes IsOut IsFront old new Done = HasWritten IsOut old.out new.out
Writes IsOut IsFront old new WriteFault = Rose old.out.faults new.out.faults × HasWritten IsFront old.out new.out
Writes IsOut IsFront old new OutOfMemory = Stays old.out new.out ⊎ HasWritten IsFront old.out new.out
Writes IsOut IsFront old new _ = ⊥

-- a text is written, or a front of one
abbrev pub WritesText : (List ℕ → Type 0) → Saying
WritesText IsText = Writes IsText (λ part. (whole : List ℕ) × (count : ℕ) × IsText whole × (part ≡ take count whole))
