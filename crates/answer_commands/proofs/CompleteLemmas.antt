-- A run whose files are there and without fault ends with its work done: each other outcome has a cause that is not there.
use Rattle.plan_base.proofs.Common.{◌≡◌, ℕ, List, Option, None, Some, sym, subst}
use Rattle.mode_network.specs.{NetworkLists.NetworkLists, IsNetwork}
use Rattle.certificate.specs.{BadLine, Claim, IsCertText, HasCause, IsCertVerdict}
use Rattle.certificate.specs.declared.verdict.CertVerdict.TheVariants as verdict
use Rattle.certificate.proofs.{ReadLaws.again, ReadLaws.bad_line_is, UniqueLemmas.verdict_is_unique}
use Rattle.run_steps.proofs.{CertificateComplete.verified_completes, TurnComplete.in_turn_completes, CompleteSteps.file_completes, CompleteSteps.network_completes, CompleteSteps.writes_completes}
use Rattle.hierarchy.specs.{HierarchyLists}
use Rattle.hierarchy_commands.proofs.CompleteLemmas.{named_completes}
use Rattle.phase_graph.specs.{IsSoundIfGiven}
use Rattle.run_steps.specs.{declared.limits.Limits.Limits, Files, Completes, IsDoneOrMemory}
use Rattle.answer_commands.specs.{WritesSettled, best_certificates, SpellsValid, AnswerCompletes, CertifyCompletes, VerifyCompletes}

-- bytes that spell a valid certificate have no line that may not stand, and no clause that fails
spells : (n : NetworkLists) (h : Option HierarchyLists) (bytes : List ℕ) → SpellsValid n h bytes → (line : ℕ) → HasCause bytes (BadLine line) → ⊥
spells n h bytes (claim, text, valid) line bad = let good = again bytes claim text in let named = bad_line_is bytes line bad in cc

pub same_claim : (bytes : List ℕ) (a b : Claim) → IsCertText bytes a → IsCertText bytes b → a ≡ b
same_claim bytes a b p q = let x = again bytes a p in let y = again bytes b q in cc

holds : (n : NetworkLists) → IsNetwork n → (h : Option HierarchyLists) → IsSoundIfGiven n h → (bytes : List ℕ) → SpellsValid n h bytes
    → (clause at : ℕ) → (best_certificates n h).Fails bytes clause at → ⊥
holds n rules h sound bytes (claim, text, valid) clause at (other, reads_so, fails) =
    let fails_here = subst (λ (c : Claim). IsCertVerdict n h c (verdict.Invalid clause at)) (same_claim bytes other claim reads_so text) fails in
    let both = verdict_is_unique n rules h sound claim verdict.Valid (verdict.Invalid clause at) valid fails_here in
    cc

-- the line `settled` is written, or there is none
settled_completes : (files : Files) (n : NetworkLists) (h : Option HierarchyLists) (limits : Limits) (bytes : List ℕ) → Completes files (Unit {0}) (WritesSettled n h limits bytes)
settled_completes files n None limits bytes p old new outcome tells quiet ends = subst IsDoneOrMemory (sym ends.0) tt
settled_completes files n (Some h) limits bytes p old new outcome tells quiet wrote = writes_completes files _ _ tt old new outcome tells quiet wrote

-- what can be done is done
pub answer_completes : AnswerCompletes
answer_completes caps limits files region queries hierarchy =
    file_completes files _ region _ _ (network_completes files caps _ _ (λ n rules. named_completes files n hierarchy _ _ (λ h sound.
    in_turn_completes files _ queries _ (WritesSettled n h limits) (settled_completes files n h limits))))

pub certify_completes : CertifyCompletes
certify_completes caps limits files region query hierarchy =
    file_completes files _ region _ _ (network_completes files caps _ _ (λ n rules. named_completes files n hierarchy _ _ (λ h sound. writes_completes files _ _)))

pub verify_completes : VerifyCompletes
verify_completes caps files region certificate hierarchy =
    file_completes files _ region _ _ (network_completes files caps _ _ (λ n rules. named_completes files n hierarchy _ _ (λ h sound.
    verified_completes files (best_certificates n h) (SpellsValid n h) (spells n h) (holds n rules h sound) certificate)))
