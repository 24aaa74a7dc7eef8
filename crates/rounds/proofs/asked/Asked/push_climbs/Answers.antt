use Rattle.plan_base.proofs.Common.{[], Vec, Global, sym, subst, arith, take_all}
use Rattle.product_search.specs.{Label}
use Rattle.phase_graph.specs.{node_of}
use Rattle.rounds.specs.inside.{asked_of, AddsLabels, IsClimbIn, IsClimbLabel, IsFirstTurn, IsOfAny, Turn}
use Rattle.rounds.proofs.ListLemmas.{adds_none, adds_same, of_more, reached_low}
use Rattle.rounds.proofs.FirstLemmas.{AreAsked, climb_reached}
use Rattle.rounds.proofs.asked.Asked.push_climbs.Goals.{then-begins+in_ok-push_climbs_in, else-begins}
use Rattle.rounds.proofs.asked.Asked.push_climbs.Goals as goal

pub loop-turn-init : goal.loop-turn-init
loop-turn-init g c = adds_none (IsOfAny (IsClimbLabel (asked_of {l = g.L.Labels} c.args.self.now) (node_of c.args.start) c.args.climbs.now) []) c.args.labels.now.items (λ x of. omega (arith, (of.1).1))

pub push_climbs_in-requires-clause-low : goal.push_climbs_in-requires-clause-low
push_climbs_in-requires-clause-low g c = λ k d lt.
    (let a = asked_of {l = g.L.Labels} c.args.self.now in
    let turns = c.args.turns.now in
    let turn : Turn = c.turn-item.result in
    let climb = c.requires.climbs.are k d lt in
    let asked : AreAsked a turns = record {
      network = c.known.ensures;
      rules = c.known-2.ensures;
      rounds = c.requires.is;
      starts = c.requires.starts;
      lawful = g.met.L.Labels.lawful c.args.self.now.machine.now.labels;
      road = g.met.L.RoadLabels.road_law c.args.self.now.machine.now.labels;
      turns_are = c.requires.turns;
    } in
    let first : IsFirstTurn a (node_of c.args.start) turn = c.begins.ensures.0 c.if-begins.true in
    let there = climb_reached asked c.args.start c.requires.start c.args.climbs.now c.requires.climbs turn (c.loop-turn.turn-index, c.loop-turn-test.true, sym c.turn-item.is) first _ _ climb in
    let low = reached_low a asked.rounds asked.starts asked.lawful _ _ _ there in
    omega (arith, low))

pub loop-turn-preserved : goal.loop-turn-preserved
loop-turn-preserved g c =
    let a = asked_of {l = g.L.Labels} c.args.self.now in
    let v = node_of c.args.start in
    let climbs = c.args.climbs.now in
    let turns = c.args.turns.now in
    let k = c.loop-turn.turn-index in
    let turn : Turn = c.turn-item.result in
    let now = c.loop-turn.labels.items in
    of_more (IsClimbLabel a v climbs) turns k turn c.loop-turn-test.true c.args.labels.now.items now c.if-begins.labels.items c.loop-turn.invariant
    (subst (λ t. AddsLabels (IsClimbLabel a v climbs t) now c.if-begins.labels.items) c.turn-item.is (elim c.if-begins.branch [
      | then-begins+in_ok-push_climbs_in w ↦ subst (λ (ls : Vec Label Global). AddsLabels (IsClimbLabel a v climbs turn) now ls.items) (sym w.labels-is)
          (adds_same (IsOfAny (IsClimbIn turn.state a.dep) climbs) (IsClimbLabel a v climbs turn) now _ w.in_ok-push_climbs_in.ensures (λ x of. (c.begins.ensures.0 w.if-begins.true, of)) (λ x l. l.1))
      | else-begins w ↦ subst (λ (ls : Vec Label Global). AddsLabels (IsClimbLabel a v climbs turn) now ls.items) (sym w.labels-is)
          (adds_none (IsClimbLabel a v climbs turn) now (λ x l. (let yes = c.begins.ensures.1 l.0 in let no = w.if-begins.false in cc)))
    ]))

pub returns : goal.returns
returns g c =
    let a = asked_of {l = g.L.Labels} c.args.self.now in
    subst (λ xs. AddsLabels (IsOfAny (IsClimbLabel a (node_of c.args.start) c.args.climbs.now) xs) c.args.labels.now.items c.loop-turn.labels.items)
    (take_all c.loop-turn.turn-index c.args.turns.now (omega (arith, c.loop-turn-test.false))) c.loop-turn.invariant
