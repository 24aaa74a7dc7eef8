use Rattle.plan_base.proofs.Common.{◌∙◌, ap, false, sym, is_some, not-true}
use Rattle.phase_graph.specs.{phase_node}
use Rattle.phase_graph.specs.InUseGraph.{lawful_in_use, meaning_in_use, rides_in_use, steady_in_use}
use Rattle.rounds.proofs.CrossingLemmas.{quiet}
use Rattle.rounds.proofs.rounds.is_left_by_nothing.Goals as goal

pub returns-then-is_some : goal.returns-then-is_some
returns-then-is_some c = λ yes.
    (let n = c.args.network.now in
    let g = c.args.graph.now in
    let v = c.args.v in
    quiet n (meaning_in_use g) v (steady_in_use g (phase_node v false)) (rides_in_use g) (lawful_in_use g) (ap is_some (sym c.letter.ensures) ∙ sym c.is_some.ensures ∙ c.if-is_some.true)
    c.requires.node c.requires.nodes (c.may_have_fresh.ensures (not-true _ yes)))
