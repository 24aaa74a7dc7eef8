-- What a run says that reads a map.
use Rattle.std.specs.Prelude.{◌≡◌, List, ℕ, ◌⊎◌, ◌++◌, IsSomeAnd, Result, Ok, Err}
use Rattle.plan_base.specs.{ShelfMeaning, Told, Caps}
use Rattle.opl_reader.specs.{ObjectLists.ObjectLists, objects_of, IsEndedFault, OplFault}
use Rattle.run_steps.specs.declared.outcome.FileRole.TheVariants as role
use Rattle.run_steps.specs.{BadFeed, Saying, Ends, OnFile}
use Rattle.run_steps.specs.declared.outcome.SourceFault.TheVariants as source

-- the file begins with these bytes
abbrev pub BeginsSo : List ℕ → List ℕ → Type 0
BeginsSo bytes file = (more : List ℕ) × (file ≡ bytes ++ more)

-- the lines that end in what was read of the map show its first fault, whatever follows
pub record ShowsFault (caps : Caps) (shelf : ShelfMeaning) (name : List ℕ) (fault : OplFault) : Type 0 where
  pub bytes : List ℕ
  pub front : Told shelf name (λ held. IsSomeAnd held (BeginsSo bytes))
  pub first : IsEndedFault caps bytes fault

-- a map is refused before its end is read
abbrev pub IsRefusedEarly : Caps → List ℕ → Saying
IsRefusedEarly caps name old new outcome =
    (fault : OplFault) × ShowsFault caps old.shelf name fault × Ends (BadFeed (source.Opl fault)) old new outcome

-- what a map's bytes give: objects, or their first fault
abbrev pub OnObjects : Result ObjectLists OplFault → (ObjectLists → Saying) → Saying
OnObjects (Ok objects) rest old new outcome = rest objects old new outcome
OnObjects (Err fault) rest old new outcome = Ends (BadFeed (source.Opl fault)) old new outcome

-- a map is read: up to its first fault, or whole
abbrev pub OnMap : Caps → List ℕ → (ObjectLists → Saying) → Saying
OnMap caps name rest old new outcome =
    IsRefusedEarly caps name old new outcome ⊎ OnFile role.Opl name (λ bytes. OnObjects (objects_of caps bytes) rest) old new outcome
