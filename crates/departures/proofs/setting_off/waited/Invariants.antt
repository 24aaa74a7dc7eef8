use Rattle.departures.proofs.SettingOffLemmas.{IsWaiting}
use Rattle.departures.proofs.setting_off.waited.Given as goal

abbrev pub invariant-loop-step : goal.invariant-loop-step
invariant-loop-step l = IsWaiting l.network l.start l.at l.steps l.step-index l.end.0 l.end.1 l.waited
