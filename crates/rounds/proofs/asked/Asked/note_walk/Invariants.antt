use Rattle.plan_base.proofs.Common.{◌≡◌, All, false, take}
use Rattle.rounds.specs.inside.{IsRowLowered, IsOfSource, IsNotedAt}
use Rattle.rounds.proofs.asked.Asked.note_walk.Given as goal

abbrev pub invariant-loop-label : goal.invariant-loop-label
invariant-loop-label g l = record {
  lowered : IsRowLowered (IsOfSource l.self.dep l.layer.sheet.slope.nodes.items l.labels l.turn) l.fn.walk l.walk;
  noted : All (IsNotedAt l.self.dep l.layer.sheet.slope.nodes.items l.turn l.walk) (take l.label-index l.labels);
  same : l.sooner ≡ false → l.walk ≡ l.fn.walk;
}
