use Rattle.plan_base.proofs.Common.{map, string_bytes}
use Rattle.command_words.proofs.PlainForms.{plain_asks}
use Rattle.planner_core.proofs.running.run.Goals as goal

pub returns-clause-plain : goal.returns-clause-plain
returns-clause-plain g c = plain_asks (map string_bytes c.args.words.now)
