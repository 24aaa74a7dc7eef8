use Rattle.plan_base.proofs.Common.{ℕ, ◌<◌, Contains}
use Rattle.rounds.specs.Layers.{IsCoreIn}
use Rattle.rounds.proofs.core_layer.Cores.has_all.Given as goal

-- the sheet has those of the nodes so far
abbrev pub invariant-loop-v : goal.invariant-loop-v
invariant-loop-v l = record { below : (u : ℕ) → u < l.v → IsCoreIn l.self.network.now l.self.hierarchy.now l.letter u → Contains l.sheet.slope.nodes.items u }
