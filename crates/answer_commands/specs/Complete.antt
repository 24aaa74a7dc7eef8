-- What can be done: the files that a command names are there and without fault.
use Rattle.std.specs.Prelude.{ℕ, List, Option}
use Rattle.plan_base.specs.{Caps}
use Rattle.mode_network.specs.NetworkLists.{NetworkLists}
use Rattle.certificate.specs.{Claim, IsCertText, IsValid}
use Rattle.hierarchy.specs.{HierarchyLists}
use Rattle.hierarchy_commands.specs.{IsSoundIfNamed}
use Rattle.run_steps.specs.declared.outcome.FileRole.TheVariants as role
use Rattle.run_steps.specs.{declared.limits.Limits.Limits, Files, AreLinesHeld, IsHeld, IsRegionHeld, Completes}
use Rattle.answer_commands.specs.Commands.{SaysAnswer, SaysCertify, SaysVerify}

-- the bytes spell a certificate that is valid
abbrev pub SpellsValid : NetworkLists → Option HierarchyLists → List ℕ → Type 0
SpellsValid n h bytes = (claim : Claim) × IsCertText bytes claim × IsValid n h claim

abbrev pub CanAnswer : Caps → Files → List ℕ → List ℕ → Option (List ℕ) → Type 0
CanAnswer caps files region queries hierarchy =
    IsRegionHeld caps files region (λ n. IsSoundIfNamed files n hierarchy (λ h. AreLinesHeld files queries))

abbrev pub CanCertify : Caps → Files → List ℕ → List ℕ → Option (List ℕ) → Type 0
CanCertify caps files region query hierarchy = IsRegionHeld caps files region (λ n. IsSoundIfNamed files n hierarchy (λ h. Unit {0}))

abbrev pub CanVerify : Caps → Files → List ℕ → List ℕ → Option (List ℕ) → Type 0
CanVerify caps files region certificate hierarchy =
    IsRegionHeld caps files region (λ n. IsSoundIfNamed files n hierarchy (λ h. IsHeld role.Certificate files certificate (SpellsValid n h)))

-- where that can be done which is asked for, and no count of faults rose, all of it is done, unless memory ran out
abbrev pub AnswerCompletes : Type 0
AnswerCompletes = (caps : Caps) (limits : Limits) (files : Files) (region queries : List ℕ) (hierarchy : Option (List ℕ))
    → Completes files (CanAnswer caps files region queries hierarchy) (SaysAnswer caps limits region queries hierarchy)

abbrev pub CertifyCompletes : Type 0
CertifyCompletes = (caps : Caps) (limits : Limits) (files : Files) (region query : List ℕ) (hierarchy : Option (List ℕ))
    → Completes files (CanCertify caps files region query hierarchy) (SaysCertify caps limits region query hierarchy)

abbrev pub VerifyCompletes : Type 0
VerifyCompletes = (caps : Caps) (files : Files) (region certificate : List ℕ) (hierarchy : Option (List ℕ))
    → Completes files (CanVerify caps files region certificate hierarchy) (SaysVerify caps region certificate hierarchy)
