-- What each command says of a run by its outcome.
use Rattle.std.specs.Prelude.{◌≡◌, ℕ, List, Option}
use Rattle.plan_base.specs.{Caps}
use Rattle.run_steps.specs.{SaysVerified, AnswersFile, OnRegion, Saying, WritesText, declared.outcome.FileRole.TheVariants.Queries, declared.limits.Limits.Limits}
use Rattle.journey.specs.{IsBlockUnder}
use Rattle.mode_network.specs.NetworkLists.{NetworkLists}
use Rattle.few_boardings.specs.{IsFewBlock}
use Rattle.latest_departure.specs.{IsLateBlockWithin}
use Rattle.departures.specs.{IsProfileBlock}
use Rattle.late_commands.specs.Outputs.{IsLateCertified, late_certificates}

-- nothing is counted for a line
abbrev pub CountsNothing : List ℕ → ℕ → Type 0
CountsNothing line count = count ≡ 0

-- the right late block of a query line, of so many places and so many labels at most
abbrev pub IsLatestBlock : NetworkLists → Limits → List ℕ → List ℕ → Type 0
IsLatestBlock n limits line block = IsBlockUnder n limits.places (IsLateBlockWithin n limits.labels) line block

-- `few` writes for each query line, of so many places at most, the block of its boardings list
abbrev pub SaysFew : Caps → (places : Option ℕ) → List ℕ → List ℕ → Saying
SaysFew caps places region queries = OnRegion caps region (λ n. AnswersFile Queries queries (IsBlockUnder n places (IsFewBlock n)))

-- `latest` writes for each query line its late block within the limits
abbrev pub SaysLatest : Caps → Limits → List ℕ → List ℕ → Saying
SaysLatest caps limits region queries = OnRegion caps region (λ n. AnswersFile Queries queries (IsLatestBlock n limits))

-- `profile` writes for each query line, of so many places at most, the block of the departures of the window, which is in milliseconds
abbrev pub SaysProfile : Caps → (places : Option ℕ) → List ℕ → List ℕ → ℕ → Saying
SaysProfile caps places region queries window =
    OnRegion caps region (λ n. AnswersFile Queries queries (IsBlockUnder n places (IsProfileBlock n window)))

-- `certify-latest` writes a late certificate for the query line, or the block of its refusal or of a search with too many labels
abbrev pub SaysCertifyLatest : Caps → Limits → List ℕ → List ℕ → Saying
SaysCertifyLatest caps limits region query = OnRegion caps region (λ n. WritesText (IsLateCertified n limits query))

-- `verify-latest` writes what the late certificate of a file shows
abbrev pub SaysVerifyLatest : Caps → List ℕ → List ℕ → Saying
SaysVerifyLatest caps region certificate = OnRegion caps region (λ n. SaysVerified (late_certificates n) certificate)
