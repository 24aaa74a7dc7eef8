-- What can be done: the files that a request names are there and without fault.
use Rattle.std.specs.Prelude.{◌≡◌, ℕ, List, Some}
use Rattle.plan_base.specs.{Caps}
use Rattle.command_words.specs.{Request, AsksFor, compile, migrate, contract, answer, certify, verify, check, sample, latest, certify_latest, verify_latest, few, profile, matrix, requests}
use Rattle.run_steps.specs.declared.outcome.FileRole.TheVariants as role
use Rattle.run_steps.specs.{Files, IsHeld, IsRegionHeld, IsQuiet, IsDoneOrMemory, Saying}
use Rattle.compile_commands.specs.{GivesRegion, IsFeedHeld, SpellsObjects}
use Rattle.hierarchy_commands.specs.{CanCheck, CanContract}
use Rattle.answer_commands.specs.{CanAnswer, CanCertify, CanVerify}
use Rattle.request_commands.specs.{CanRequests}
use Rattle.late_commands.specs.{CanFew, CanLatest, CanProfile, CanCertifyLatest, CanVerifyLatest}
use Rattle.matrix_commands.specs.{CanMatrix}

-- all that is asked for can be done: each file is there and without fault
abbrev pub CanBeDone : Caps → Files → Request → Type 0
CanBeDone caps files (compile map feed days format) = IsHeld role.Opl files map (SpellsObjects caps (λ objects. IsFeedHeld caps files feed (GivesRegion caps objects days)))
CanBeDone caps files (migrate region format) = IsRegionHeld caps files region (λ n. Unit {0})
CanBeDone caps files (contract region keep) = CanContract caps files region keep
CanBeDone caps files (answer region queries hierarchy labels places) = CanAnswer caps files region queries hierarchy
CanBeDone caps files (certify region query hierarchy labels places) = CanCertify caps files region query hierarchy
CanBeDone caps files (verify region certificate hierarchy) = CanVerify caps files region certificate hierarchy
CanBeDone caps files (check region hierarchy) = CanCheck caps files region hierarchy
CanBeDone caps files (sample size) = Unit {0}
CanBeDone caps files (latest region queries labels places) = CanLatest caps files region queries
CanBeDone caps files (certify_latest region query labels places) = CanCertifyLatest caps files region query
CanBeDone caps files (verify_latest region certificate) = CanVerifyLatest caps files region certificate
CanBeDone caps files (few region queries places) = CanFew caps files region queries
CanBeDone caps files (profile region queries window places) = CanProfile caps files region queries
CanBeDone caps files (matrix region origins destinations date time expr hierarchy places) = CanMatrix caps files region origins destinations hierarchy
CanBeDone caps files (requests region lines hierarchy labels places) = CanRequests caps files region lines hierarchy

-- where the words ask for something, all of it can be done, and no count of faults rose, all of it is done, unless memory ran out
abbrev pub IsComplete : Caps → List (List ℕ) → Saying
IsComplete caps words old new outcome =
    (r : Request) (files : Files) → AsksFor words r → old.shelf.files ≡ Some files → CanBeDone caps files r → IsQuiet old new → IsDoneOrMemory outcome
