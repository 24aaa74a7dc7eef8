use Rattle.plan_base.proofs.Common.{◌+◌, ◌/◌, All, take}
use Rattle.search_laws.specs.{Leg}
use Rattle.hierarchy.specs.{legs_from}
use Rattle.rounds.specs.inside.{nodes_of_rungs, IsClimbedBehind, IsClimbedFrom, IsRowLowered}
use Rattle.rounds.proofs.climb.climb_on.Given as goal

abbrev pub invariant-loop-leg : goal.invariant-loop-leg
invariant-loop-leg l = record {
  lowered : IsRowLowered (IsClimbedFrom l.h (nodes_of_rungs l.rungs) l.initial.delays l.place) l.initial.delays l.delays;
  passed : All (λ (leg : Leg). IsClimbedBehind (nodes_of_rungs l.rungs) l.delays l.place (leg.to / 2) (l.delay + leg.ms)) (take l.leg-index (legs_from l.h l.node));
}
