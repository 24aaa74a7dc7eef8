use Rattle.plan_base.proofs.Common.{List, take, refl, sym, subst, take_more}
use Rattle.product_search.specs.{declared.label.Label.Label}
use Rattle.descents.specs.inside.Delaying.{AreDelays}
use Rattle.descents.proofs.delays.delays_of.Goals as goal

pub loop-label-preserved : goal.loop-label-preserved
loop-label-preserved g c =
    let labels = c.args.labels.now in
    let k = c.loop-label.label-index in
    let none : Label = record { node = 0; state = 0; at = 0 } in
    subst (λ (taken : List Label). AreDelays c.args.network.now c.args.slope.now.nodes.items (g.L.Labels.automaton c.args.automaton.now) c.args.dep taken c.note.new.self) (sym (take_more labels k none c.loop-label-test.true))
    (c.if-not-note.ensures refl (take k labels) c.loop-label.invariant)
