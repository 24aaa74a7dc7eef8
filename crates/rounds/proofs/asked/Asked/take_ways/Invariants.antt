use Rattle.plan_base.proofs.Common.{All, take}
use Rattle.rounds.specs.inside.{asked_of, AreCrossedOn, WayIsCrossed}
use Rattle.rounds.proofs.asked.Asked.take_ways.Given as goal

abbrev pub invariant-loop-way : goal.invariant-loop-way
invariant-loop-way g l = record {
  taken : AreCrossedOn (asked_of {l = g.L.Labels} l.self) l.initial.rows.items l.rows.items l.changed;
  crossed : All (WayIsCrossed (asked_of {l = g.L.Labels} l.self) l.rows.items l.state) (take l.way-index l.ways);
}
