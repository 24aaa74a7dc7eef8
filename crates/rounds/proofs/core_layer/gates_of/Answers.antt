use Rattle.plan_base.proofs.Common.{◌+◌, sym, subst}
use Rattle.rounds.proofs.LayerLemmas.{AreGatesBelow, gate_more, gate_passes}
use Rattle.rounds.proofs.core_layer.gates_of.Goals.{in-Some+in_ok-push, in_default}
use Rattle.rounds.proofs.core_layer.gates_of.Goals as goal

pub loop-crossing-preserved : goal.loop-crossing-preserved
loop-crossing-preserved c =
    let slope = c.args.sheet.now.slope in
    let nodes = slope.nodes.items in
    let crossings = c.args.crossings.now in
    let j = c.loop-crossing.crossing in
    let gates = c.loop-crossing.gates.items in
    let below = c.loop-crossing.invariant.below in
    record {
      below = elim c.match-place_of.branch [
        | in-Some+in_ok-push w ↦ (let found = rw w.in-Some.is at c.place_of.ensures.some in
            subst (λ gs. AreGatesBelow nodes crossings (j + 1) gs.items) (sym w.gates-is)
            (subst (AreGatesBelow nodes crossings (j + 1)) (sym w.in_ok-push.ensures.items)
            (gate_more nodes crossings j gates below slope.places.items w.in-Some.place slope.placed found.0 found.1 c.loop-crossing-test.true)))
        | in_default w ↦ subst (λ gs. AreGatesBelow nodes crossings (j + 1) gs.items) (sym w.gates-is) (gate_passes nodes crossings j gates below w.in_default.ensures.none)
      ];
    }
