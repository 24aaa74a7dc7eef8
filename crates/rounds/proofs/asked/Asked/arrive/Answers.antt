use Rattle.plan_base.proofs.Common.{arith, Some, slice_index_or, refl}
use Rattle.rounds.specs.inside.{asked_of, arrival_way}
use Rattle.rounds.proofs.VisitLemmas.{state_after, way_taken}
use Rattle.rounds.proofs.asked.Asked.arrive.Goals as goal

pub lower_each-requires : goal.lower_each-requires
lower_each-requires g c =
    let l = g.L.Labels in
    let a = asked_of {l = l} c.args.self.now in
    let shape = c.requires.crossings.shape in
    λ k d lt.
    (let r = slice_index_or c.targets_of-states.result.now k d in
    let state = state_after a (g.met.L.Labels.lawful c.args.self.now.machine.now.labels) (Some c.args.letter) c.args.state r c.requires.state (c.targets_of-states.ensures.are k d lt) in
    (omega (arith, state, shape.count_is), omega (arith, shape.width_is r state, c.requires.crossing)))

pub returns-clause-taken : goal.returns-clause-taken
returns-clause-taken g c =
    let a = asked_of {l = g.L.Labels} c.args.self.now in
    let delay = c.in_ok-delay.ensures in
    way_taken a c.args.state (arrival_way a c.args.letter c.args.crossing c.args.at) c.requires.reached c.args.crossing c.in_ok-delay.delay refl delay.0 c.targets_of-states.result.now c.targets_of-states.ensures.are
    c.args.rows.now.items c.lower_each.new.rows.items c.lower_each.result c.requires.crossings c.lower_each.ensures.lowered c.lower_each.ensures.same
