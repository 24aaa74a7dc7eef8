-- What can be done: the files that the command names are there and without fault.
use Rattle.std.specs.Prelude.{ℕ, List, Option}
use Rattle.plan_base.specs.{Caps}
use Rattle.hierarchy_commands.specs.{IsSoundIfNamed}
use Rattle.run_steps.specs.{declared.limits.Limits.Limits, Files, AreLinesHeld, IsRegionHeld, Completes}
use Rattle.request_commands.specs.Commands.{SaysRequests}

abbrev pub CanRequests : Caps → Files → List ℕ → List ℕ → Option (List ℕ) → Type 0
CanRequests caps files region file hierarchy = IsRegionHeld caps files region (λ n. IsSoundIfNamed files n hierarchy (λ h. AreLinesHeld files file))

-- where that can be done which is asked for, and no count of faults rose, all of it is done, unless memory ran out
abbrev pub RequestsCompletes : Type 0
RequestsCompletes = (caps : Caps) (limits : Limits) (files : Files) (region file : List ℕ) (hierarchy : Option (List ℕ))
    → Completes files (CanRequests caps files region file hierarchy) (SaysRequests caps limits region file hierarchy)
