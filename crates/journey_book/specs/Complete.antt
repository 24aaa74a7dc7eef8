-- What can be done: the files that a request names are there and without fault.
use Rattle.std.specs.Prelude.{ℕ, List, Option}
use Rattle.plan_base.specs.{Caps}
use Rattle.hierarchy_commands.specs.{IsSoundIfNamed}
use Rattle.run_steps.specs.{Files, IsDoneOrMemory, IsRegionHeld}
use Rattle.answer_commands.specs.{CanVerify}
use Rattle.journey_book.specs.{Requests.BookRequest, Requests.keep, Requests.drop, Requests.list, Requests.show, Requests.report, declared.outcome.BookOutcome.BookOutcome, declared.outcome.BookOutcome.TheVariants.Common, declared.outcome.BookOutcome.TheVariants.KeepFault, declared.outcome.BookOutcome.TheVariants.Absent, declared.outcome.BookOutcome.TheVariants.NotWell}

-- a region is there, and a hierarchy that is sound for it, if one is named
abbrev pub AreHeld : Caps → Files → List ℕ → Option (List ℕ) → Type 0
AreHeld caps files region hierarchy =
    IsRegionHeld caps files region (λ n. IsSoundIfNamed files n hierarchy (λ h. Unit {0}))

-- each file that is asked for is there and without fault; a certificate is kept where `verify` could be done
abbrev pub CanBeDoneByBook : Caps → Files → BookRequest → Type 0
CanBeDoneByBook caps files (keep name region certificate hierarchy) =
    CanVerify caps files region certificate hierarchy
CanBeDoneByBook caps files (report kind region hierarchy fail) = AreHeld caps files region hierarchy
CanBeDoneByBook caps files (drop name) = Unit {0}
CanBeDoneByBook caps files list = Unit {0}
CanBeDoneByBook caps files (show name) = Unit {0}

-- the work is done, whether or not a line is well; or nothing is kept under the name, or memory ran out
abbrev pub IsDoneOrAbsent : BookOutcome → Type 0
IsDoneOrAbsent (Common outcome) = IsDoneOrMemory outcome
IsDoneOrAbsent NotWell = Unit {0}
IsDoneOrAbsent Absent = Unit {0}
IsDoneOrAbsent KeepFault = ⊥
