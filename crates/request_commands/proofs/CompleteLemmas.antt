-- A run whose files are there and without fault ends with its work done.
use Rattle.hierarchy_commands.proofs.CompleteLemmas.{named_completes}
use Rattle.run_steps.proofs.{CompleteSteps.file_completes, CompleteSteps.network_completes, TurnComplete.answers_completes}
use Rattle.request_commands.specs.{RequestsCompletes}

pub requests_completes : RequestsCompletes
requests_completes caps limits files region file hierarchy =
    file_completes files _ region _ _ (network_completes files caps _ _ (λ n rules. named_completes files n hierarchy _ _ (λ h sound. answers_completes files _ file _)))
