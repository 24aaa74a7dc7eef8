-- A run whose files are there and without fault ends with its work done: each other outcome has a cause that is not there.
use Rattle.plan_base.proofs.Common.{◌≡◌, ℕ, List, subst}
use Rattle.mode_network.specs.{NetworkLists.NetworkLists, IsNetwork}
use Rattle.certificate.specs.{BadLine}
use Rattle.certificate.specs.declared.verdict.CertVerdict.TheVariants as verdict
use Rattle.latest_departure.specs.{LateClaim}
use Rattle.late_certificate.specs.{IsLateText, HasCause, IsLateVerdict}
use Rattle.late_certificate.proofs.{ReadLaws.again, ReadLaws.bad_line_is, UniqueLemmas.late_verdict_is_unique}
use Rattle.run_steps.proofs.{CertificateComplete.verified_completes, TurnComplete.answers_completes, CompleteSteps.file_completes, CompleteSteps.network_completes, CompleteSteps.writes_completes}
use Rattle.late_commands.specs.{late_certificates, SpellsValidLate, FewCompletes, LatestCompletes, ProfileCompletes, CertifyLatestCompletes, VerifyLatestCompletes}

-- bytes that spell a valid late certificate have no line that may not stand, and no clause that fails
spells : (n : NetworkLists) (bytes : List ℕ) → SpellsValidLate n bytes → (line : ℕ) → HasCause bytes (BadLine line) → ⊥
spells n bytes (claim, text, valid) line bad = let good = again bytes claim text in let named = bad_line_is bytes line bad in cc

same_claim : (bytes : List ℕ) (a b : LateClaim) → IsLateText bytes a → IsLateText bytes b → a ≡ b
same_claim bytes a b p q = let x = again bytes a p in let y = again bytes b q in cc

holds : (n : NetworkLists) → IsNetwork n → (bytes : List ℕ) → SpellsValidLate n bytes → (clause at : ℕ) → (late_certificates n).Fails bytes clause at → ⊥
holds n rules bytes (claim, text, valid) clause at (other, reads_so, fails) =
    let fails_here = subst (λ (c : LateClaim). IsLateVerdict n c (verdict.Invalid clause at)) (same_claim bytes other claim reads_so text) fails in
    let both = late_verdict_is_unique n rules claim verdict.Valid (verdict.Invalid clause at) valid fails_here in
    cc

-- what can be done is done
pub few_completes : FewCompletes
few_completes caps places files region queries =
    file_completes files _ region _ _ (network_completes files caps _ _ (λ n rules. answers_completes files _ queries _))

pub latest_completes : LatestCompletes
latest_completes caps limits files region queries =
    file_completes files _ region _ _ (network_completes files caps _ _ (λ n rules. answers_completes files _ queries _))

pub profile_completes : ProfileCompletes
profile_completes caps places files region queries window =
    file_completes files _ region _ _ (network_completes files caps _ _ (λ n rules. answers_completes files _ queries _))

pub certify_latest_completes : CertifyLatestCompletes
certify_latest_completes caps limits files region query = file_completes files _ region _ _ (network_completes files caps _ _ (λ n rules. writes_completes files _ _))

pub verify_latest_completes : VerifyLatestCompletes
verify_latest_completes caps files region certificate =
    file_completes files _ region _ _ (network_completes files caps _ _ (λ n rules.
    verified_completes files (late_certificates n) (SpellsValidLate n) (spells n) (holds n rules) certificate))
