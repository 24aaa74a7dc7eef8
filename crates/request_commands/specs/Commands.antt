-- What the command says of a run by its outcome.
use Rattle.std.specs.Prelude.{ℕ, List, Option}
use Rattle.plan_base.specs.{Caps}
use Rattle.hierarchy_commands.specs.{OnHierarchyIfNamed}
use Rattle.run_steps.specs.{declared.outcome.FileRole.TheVariants.Requests, declared.limits.Limits.Limits, AnswersFile, OnRegion, Saying}
use Rattle.request_commands.specs.Requests.{IsReply}

-- `requests` writes the right reply within the limits to each line of a file, in order and as it is read
abbrev pub SaysRequests : Caps → Limits → List ℕ → List ℕ → Option (List ℕ) → Saying
SaysRequests caps limits region file hierarchy =
    OnRegion caps region (λ n. OnHierarchyIfNamed n hierarchy (λ h. AnswersFile Requests file (IsReply n h limits)))
