use Rattle.plan_base.proofs.Common.{ℕ, ◌+◌, ◌∙◌, false, sym, subst}
use Rattle.phase_graph.specs.{phase_node}
use Rattle.phase_graph.specs.InUseGraph.{meaning_in_use, steady_in_use}
use Rattle.rounds.specs.Crossings.{IsQuiet}
use Rattle.rounds.proofs.CrossingLemmas.{AreCrossingsBelow, crossing_more, crossing_passes}
use Rattle.rounds.proofs.LayerLemmas.{core_of}
use Rattle.rounds.proofs.rounds.crossings_of.Goals.{then-not-is_quiet+else-contracted+in_ok-push, else-not-is_quiet}
use Rattle.rounds.proofs.rounds.crossings_of.Goals as goal

pub loop-v-preserved : goal.loop-v-preserved
loop-v-preserved c =
    let order = c.args.hierarchy.now.order in
    let Quiet : ℕ → Type 0 = λ u. IsQuiet c.args.network.now (meaning_in_use c.args.graph.now) u (steady_in_use c.args.graph.now (phase_node u false)) in
    let v = c.loop-v.v in
    let crossings = c.loop-v.crossings.items in
    let below = c.loop-v.invariant.below in
    record {
      below = elim c.if-not-is_quiet.branch [
        | then-not-is_quiet+else-contracted+in_ok-push w ↦ subst (λ xs. AreCrossingsBelow order Quiet (v + 1) xs.items) (sym w.crossings-is)
            (subst (AreCrossingsBelow order Quiet (v + 1)) (sym w.in_ok-push.ensures.items) (crossing_more order Quiet v crossings below (core_of order v (sym w.contracted.ensures ∙ w.if-contracted.false))))
        | else-not-is_quiet w ↦ subst (λ xs. AreCrossingsBelow order Quiet (v + 1) xs.items) (sym w.crossings-is) (crossing_passes order Quiet v crossings below (c.is_quiet.ensures w.if-not-is_quiet.false))
      ];
    }
