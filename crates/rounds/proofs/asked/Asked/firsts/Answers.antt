use Rattle.plan_base.proofs.Common.{[], Contains-get_or, List, get_or, take, take_all, take_more, sym, subst, arith}
use Rattle.phase_graph.specs.{node_of}
use Rattle.rounds.specs.inside.{asked_of, AreClimbs, AreFirstsOf, AddsLabels, IsOfAny, IsClimbLabel, Climb}
use Rattle.rounds.proofs.FirstLemmas.{AreAsked, firsts_more, no_firsts}
use Rattle.rounds.proofs.asked.Asked.firsts.Goals as goal

pub loop-start-init : goal.loop-start-init
loop-start-init g c =
    let a = asked_of {l = g.L.Labels} c.args.self.now in
    subst (AreFirstsOf a []) (sym c.new-labels.ensures.items) (no_firsts a)

pub loop-start-preserved : goal.loop-start-preserved
loop-start-preserved g c =
    let a = asked_of {l = g.L.Labels} c.args.self.now in
    let k = c.loop-start.start-index in
    let p = get_or a.starts k 0 in
    let climbs : List Climb = c.in-Some.climbs.items in
    let old = c.loop-start.labels.items in
    let mid = c.push_starts.new.labels.items in
    let new = c.push_climbs.new.labels.items in
    let asked : AreAsked a c.args.turns.now = record {
      network = c.known.ensures;
      rules = c.known-2.ensures;
      rounds = c.requires.is;
      starts = c.requires.starts;
      lawful = g.met.L.Labels.lawful c.args.self.now.machine.now.labels;
      road = g.met.L.RoadLabels.road_law c.args.self.now.machine.now.labels;
      turns_are = c.requires.turns;
    } in
    let climbs_are : AreClimbs a.rounds.hierarchy.now (node_of p) climbs = rw c.in-Some.is at c.in_ok-climbs.ensures in
    let with_climbs = subst (λ (cs : List Climb). AddsLabels (IsOfAny (IsClimbLabel a (node_of p) cs) c.args.turns.now) mid new) c.deref.ensures.value c.in_ok-push_climbs.ensures in
    subst (λ ps. AreFirstsOf a ps new) (sym (take_more a.starts k 0 c.loop-start-test.true))
    (firsts_more asked p (Contains-get_or a.starts k 0 c.loop-start-test.true) climbs climbs_are old mid new c.in_ok-push_starts.ensures with_climbs (take k a.starts) c.loop-start.invariant)

pub returns : goal.returns
returns g c =
    let a = asked_of {l = g.L.Labels} c.args.self.now in
    subst (λ ps. AreFirstsOf a ps c.loop-start.labels.items) (take_all c.loop-start.start-index a.starts (omega (arith, c.loop-start-test.false))) c.loop-start.invariant
