use Rattle.plan_base.proofs.Common.{take}
use Rattle.rounds.specs.inside.{AddsLabels, IsClimbIn, IsOfAny}
use Rattle.rounds.proofs.firsts.push_climbs_in.Given as goal

abbrev pub invariant-loop-climb : goal.invariant-loop-climb
invariant-loop-climb l = AddsLabels (IsOfAny (IsClimbIn l.state l.dep) (take l.climb-index l.climbs)) l.initial.labels.items l.labels.items
