-- A run whose files are there and without fault ends with its work done: each other outcome has a cause that is not there.
use Rattle.plan_base.specs.{Caps}
use Rattle.command_words.specs.{Request, compile, migrate, contract, answer, certify, verify, check, sample, latest, certify_latest, verify_latest, few, profile, matrix, requests}
use Rattle.run_steps.specs.{Files, Completes}
use Rattle.run_steps.proofs.CompleteSteps.{file_completes, network_completes, writes_completes}
use Rattle.compile_commands.proofs.CompleteSteps.{map_completes, feed_completes, build_completes}
use Rattle.hierarchy_commands.proofs.CompleteLemmas.{check_completes, contract_completes}
use Rattle.answer_commands.proofs.CompleteLemmas.{answer_completes, certify_completes, verify_completes}
use Rattle.late_commands.proofs.CompleteLemmas.{few_completes, latest_completes, profile_completes, certify_latest_completes, verify_latest_completes}
use Rattle.matrix_commands.proofs.CompleteLemmas.{matrix_completes}
use Rattle.request_commands.proofs.CompleteLemmas.{requests_completes}
use Rattle.planner_core.specs.{says, CanBeDone}

-- what can be done is done
pub completes : (files : Files) (caps : Caps) (r : Request) → Completes files (CanBeDone caps files r) (says caps r)
completes files caps (compile map feed days format) =
    map_completes files caps map _ _ (λ objects. feed_completes files caps feed _ _ (λ tables. build_completes files caps objects tables days _ (λ n. writes_completes files _ _)))
completes files caps (migrate region format) = file_completes files _ region _ _ (network_completes files caps _ _ (λ n rules. writes_completes files _ _))
completes files caps (contract region keep) = contract_completes caps files region keep
completes files caps (answer region queries hierarchy labels places) = answer_completes caps _ files region queries hierarchy
completes files caps (certify region query hierarchy labels places) = certify_completes caps _ files region query hierarchy
completes files caps (verify region certificate hierarchy) = verify_completes caps files region certificate hierarchy
completes files caps (check region hierarchy) = check_completes caps files region hierarchy
completes files caps (sample size) = writes_completes files _ _
completes files caps (latest region queries labels places) = latest_completes caps _ files region queries
completes files caps (certify_latest region query labels places) = certify_latest_completes caps _ files region query
completes files caps (verify_latest region certificate) = verify_latest_completes caps files region certificate
completes files caps (few region queries places) = few_completes caps places files region queries
completes files caps (profile region queries window places) = profile_completes caps places files region queries window
completes files caps (matrix region origins destinations date time expr hierarchy places) = matrix_completes caps places files region origins destinations date time expr hierarchy
completes files caps (requests region lines hierarchy labels places) = requests_completes caps _ files region lines hierarchy
