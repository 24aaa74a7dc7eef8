use Rattle.plan_base.proofs.Common.{All, take}
use Rattle.rounds.specs.inside.{AreLowered, IsOfLabel, IsNotedIn}
use Rattle.rounds.proofs.asked.Asked.note_crossings.Given as goal

abbrev pub invariant-loop-label : goal.invariant-loop-label
invariant-loop-label g l = record {
  lowered : AreLowered (IsOfLabel l.self.dep l.self.rounds.now.crossings.items l.labels) l.fn.crossings.items l.crossings.items;
  noted : All (IsNotedIn l.self.dep l.self.rounds.now.crossings.items l.crossings.items) (take l.label-index l.labels);
}
