-- What each command says of a run by its outcome.
use Rattle.std.specs.Prelude.{ℕ, List, Option}
use Rattle.plan_base.specs.{Caps}
use Rattle.run_steps.specs.{SaysVerified, OnRegion, Saying, WritesText, declared.outcome.FileRole.TheVariants.Queries, declared.limits.Limits.Limits, InTurn.InTurn}
use Rattle.hierarchy_commands.specs.{OnHierarchyIfNamed}
use Rattle.answer_commands.specs.{Answers.IsAnswer, Answers.WritesSettled, Outputs.IsCertified, Outputs.best_certificates}

-- `answer` writes a right block within the limits for each query line of a file, in order and as it is read, and with a hierarchy how many labels its searches had
abbrev pub SaysAnswer : Caps → Limits → List ℕ → List ℕ → Option (List ℕ) → Saying
SaysAnswer caps limits region queries hierarchy =
    OnRegion caps region (λ n. OnHierarchyIfNamed n hierarchy (λ h. InTurn Queries queries (IsAnswer n h limits) (WritesSettled n h limits)))

-- `certify` writes a certificate for the query line, or the block of its refusal or of a search with too many labels
abbrev pub SaysCertify : Caps → Limits → List ℕ → List ℕ → Option (List ℕ) → Saying
SaysCertify caps limits region query hierarchy =
    OnRegion caps region (λ n. OnHierarchyIfNamed n hierarchy (λ h. WritesText (IsCertified n h limits query)))

-- `verify` writes what the certificate of a file shows
abbrev pub SaysVerify : Caps → List ℕ → List ℕ → Option (List ℕ) → Saying
SaysVerify caps region certificate hierarchy = OnRegion caps region (λ n. OnHierarchyIfNamed n hierarchy (λ h. SaysVerified (best_certificates n h) certificate))
