-- Runs of the planner whose shelf and whose output tell what they hold.
use Rattle.std.specs.Prelude.{◌≡◌, ℕ, ◌≤◌, ⊤, List, ◌++◌, length, Option, Some, IfSome}
use Rattle.run_steps.specs.{FileRole, Outcome, Done, Saying, most_of, Files, IsQuiet, IsDoneOrMemory, Scene.Scene}

-- a run of which this is said had these files, did all of its work, and wrote this
pub record Wrote (S : Saying) (files : Files) (out : List ℕ) : Type 0 where
  pub old : Scene ⊤
  pub new : Scene ⊤
  pub said : S old new Done
  pub told : old.shelf.files ≡ Some files
  pub before : List ℕ
  pub stood : old.out.bytes ≡ Some before
  pub stands : new.out.bytes ≡ Some (before ++ out)

-- Each run of which this is said, with these files, does all of its work where no count of faults rises,
-- unless memory runs out.
abbrev pub Succeeds : Saying → Files → Type 0
Succeeds S files = (old new : Scene ⊤) (outcome : Outcome)
    → old.shelf.files ≡ Some files → IsQuiet old new → S old new outcome → IsDoneOrMemory outcome

-- Later the region stands as it did, and this name holds what was written, which is no longer than a file
-- with this role may be.
pub record IsStored (role : FileRole) (files later : Files) (region name out : List ℕ) : Type 0 where
  pub region_stays : later region ≡ files region
  pub held : later name ≡ Some out
  pub within : length out ≤ most_of role

-- the file stands as it did, where one is named
abbrev pub StaysIfNamed : Files → Files → Option (List ℕ) → Type 0
StaysIfNamed files later named = IfSome named (λ name. later name ≡ files name)
