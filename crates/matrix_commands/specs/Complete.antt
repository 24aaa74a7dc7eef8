-- What can be done: the files that the command names are there and without fault.
use Rattle.std.specs.Prelude.{ℕ, List, Option}
use Rattle.plan_base.specs.{Caps}
use Rattle.hierarchy_commands.specs.{IsSoundIfNamed}
use Rattle.run_steps.specs.declared.outcome.FileRole.TheVariants as role
use Rattle.run_steps.specs.{Files, AreLinesHeld, IsHeld, IsRegionHeld, Completes}
use Rattle.matrix_commands.specs.Commands.{SaysMatrix}

abbrev pub CanMatrix : Caps → Files → (region origins destinations : List ℕ) → Option (List ℕ) → Type 0
CanMatrix caps files region origins destinations hierarchy =
    IsRegionHeld caps files region (λ n. IsSoundIfNamed files n hierarchy (λ h. IsHeld role.Destinations files destinations (λ bytes. AreLinesHeld files origins)))

-- where that can be done which is asked for, and no count of faults rose, all of it is done, unless memory ran out
abbrev pub MatrixCompletes : Type 0
MatrixCompletes = (caps : Caps) (places : Option ℕ) (files : Files) (region origins destinations date time expr : List ℕ) (hierarchy : Option (List ℕ))
    → Completes files (CanMatrix caps files region origins destinations hierarchy) (SaysMatrix caps places region origins destinations date time expr hierarchy)
