use Rattle.plan_base.proofs.Common.{◌≡◌, ◌++◌, drop}
use Rattle.departures.specs.inside.{unwaited}
use Rattle.departures.proofs.SettingOffLemmas.{rest_of}
use Rattle.departures.proofs.setting_off.unwaited.Given as goal

abbrev pub invariant-loop-step : goal.invariant-loop-step
invariant-loop-step l = l.kept.items ++ rest_of l.ridden (drop l.step-index l.steps) ≡ unwaited l.steps
