-- What one command writes another one accepts.
use Rattle.std.specs.Prelude.{◌≡◌, ℕ, ◌⊎◌, List, Option}
use Rattle.plan_base.specs.{Caps}
use Rattle.journey.specs.{block_text}
use Rattle.run_steps.specs.{declared.limits.Limits.Limits, Files}
use Rattle.run_steps.specs.declared.outcome.FileRole.TheVariants as role
use Rattle.hierarchy_commands.specs.{SaysCheck, SaysContract}
use Rattle.answer_commands.specs.{SaysCertify, SaysVerify}
use Rattle.late_commands.specs.{SaysCertifyLatest, SaysVerifyLatest}
use Rattle.promises.specs.Runs.{Wrote, Succeeds, IsStored, StaysIfNamed}

-- what `contract` wrote of a region, kept in a file, `check` calls sound for this region
abbrev pub WhatContractWritesCheckAccepts : Type 0
WhatContractWritesCheckAccepts = (caps : Caps) (files later : Files) (region name out : List ℕ) (keep : ℕ)
    → Wrote (SaysContract caps region keep) files out → IsStored role.Hierarchy files later region name out
    → Succeeds (SaysCheck caps region name) later

-- a block of this line, with some body
abbrev pub IsBlockOf : List ℕ → List ℕ → Type 0
IsBlockOf line out = (body : List ℕ) × (out ≡ block_text line body)

-- What `certify` printed for a line is a block, that of its refusal or of a search with too many labels; or
-- `verify` calls it valid, where it is kept in a file.
abbrev pub WhatCertifyPrintsVerifyAccepts : Type 0
WhatCertifyPrintsVerifyAccepts = (caps : Caps) (limits : Limits) (files later : Files)
    → (region query name out : List ℕ)
    → (hierarchy : Option (List ℕ)) → Wrote (SaysCertify caps limits region query hierarchy) files out
    → IsStored role.Certificate files later region name out → StaysIfNamed files later hierarchy
    → IsBlockOf query out ⊎ Succeeds (SaysVerify caps region name hierarchy) later

-- and so it is of the latest departure
abbrev pub WhatCertifyLatestPrintsVerifyLatestAccepts : Type 0
WhatCertifyLatestPrintsVerifyLatestAccepts = (caps : Caps) (limits : Limits) (files later : Files)
    → (region query name out : List ℕ) → Wrote (SaysCertifyLatest caps limits region query) files out
    → IsStored role.Certificate files later region name out
    → IsBlockOf query out ⊎ Succeeds (SaysVerifyLatest caps region name) later
