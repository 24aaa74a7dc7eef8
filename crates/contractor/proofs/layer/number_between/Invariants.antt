use Rattle.plan_base.proofs.Common.{◌≢◌, take, All}
use Rattle.witness.specs.{Edge}
use Rattle.contractor.proofs.layer.number_between.Given as goal

abbrev pub invariant-loop-edge : goal.invariant-loop-edge
invariant-loop-edge l = All (λ (edge : Edge). edge.to ≢ l.to) (take l.edge-index l.row)
