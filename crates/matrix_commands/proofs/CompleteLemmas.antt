-- A run whose files are there and without fault ends with its work done.
use Rattle.hierarchy_commands.proofs.CompleteLemmas.{named_completes}
use Rattle.run_steps.proofs.{CompleteSteps.file_completes, CompleteSteps.network_completes, TurnComplete.answers_completes}
use Rattle.matrix_commands.specs.{MatrixCompletes}

pub matrix_completes : MatrixCompletes
matrix_completes caps places files region origins destinations date time expr hierarchy =
    file_completes files _ region _ _ (network_completes files caps _ _ (λ n rules. named_completes files n hierarchy _ _ (λ h sound.
    file_completes files _ destinations _ _ (λ bytes. answers_completes files _ origins _))))
