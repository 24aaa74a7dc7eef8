-- What can be done: the files that a command names are there and without fault.
use Rattle.std.specs.Prelude.{ℕ, List, Option}
use Rattle.plan_base.specs.{Caps}
use Rattle.mode_network.specs.NetworkLists.{NetworkLists}
use Rattle.latest_departure.specs.{LateClaim, IsValidLate}
use Rattle.late_certificate.specs.{IsLateText}
use Rattle.run_steps.specs.declared.outcome.FileRole.TheVariants as role
use Rattle.run_steps.specs.{declared.limits.Limits.Limits, Files, AreLinesHeld, IsHeld, IsRegionHeld, Completes}
use Rattle.late_commands.specs.Commands.{SaysFew, SaysLatest, SaysProfile, SaysCertifyLatest, SaysVerifyLatest}

-- the bytes spell a late certificate that is valid
abbrev pub SpellsValidLate : NetworkLists → List ℕ → Type 0
SpellsValidLate n bytes = (claim : LateClaim) × IsLateText bytes claim × IsValidLate n claim

abbrev pub CanFew : Caps → Files → List ℕ → List ℕ → Type 0
CanFew caps files region queries = IsRegionHeld caps files region (λ n. AreLinesHeld files queries)

abbrev pub CanLatest : Caps → Files → List ℕ → List ℕ → Type 0
CanLatest caps files region queries = IsRegionHeld caps files region (λ n. AreLinesHeld files queries)

abbrev pub CanProfile : Caps → Files → List ℕ → List ℕ → Type 0
CanProfile caps files region queries = IsRegionHeld caps files region (λ n. AreLinesHeld files queries)

abbrev pub CanCertifyLatest : Caps → Files → List ℕ → List ℕ → Type 0
CanCertifyLatest caps files region query = IsRegionHeld caps files region (λ n. Unit {0})

abbrev pub CanVerifyLatest : Caps → Files → List ℕ → List ℕ → Type 0
CanVerifyLatest caps files region certificate = IsRegionHeld caps files region (λ n. IsHeld role.Certificate files certificate (SpellsValidLate n))

-- where that can be done which is asked for, and no count of faults rose, all of it is done, unless memory ran out
abbrev pub FewCompletes : Type 0
FewCompletes = (caps : Caps) (places : Option ℕ) (files : Files) (region queries : List ℕ)
    → Completes files (CanFew caps files region queries) (SaysFew caps places region queries)

abbrev pub LatestCompletes : Type 0
LatestCompletes = (caps : Caps) (limits : Limits) (files : Files) (region queries : List ℕ)
    → Completes files (CanLatest caps files region queries) (SaysLatest caps limits region queries)

abbrev pub ProfileCompletes : Type 0
ProfileCompletes =
    (caps : Caps) (places : Option ℕ) (files : Files) (region queries : List ℕ) (window : ℕ)
    → Completes files (CanProfile caps files region queries) (SaysProfile caps places region queries window)

abbrev pub CertifyLatestCompletes : Type 0
CertifyLatestCompletes = (caps : Caps) (limits : Limits) (files : Files) (region query : List ℕ)
    → Completes files (CanCertifyLatest caps files region query) (SaysCertifyLatest caps limits region query)

abbrev pub VerifyLatestCompletes : Type 0
VerifyLatestCompletes = (caps : Caps) (files : Files) (region certificate : List ℕ) → Completes files (CanVerifyLatest caps files region certificate) (SaysVerifyLatest caps region certificate)
