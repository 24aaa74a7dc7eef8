use Rattle.plan_base.proofs.Common.{◌<◌, ◌∙◌, List, length, ap, get_or, sym, subst, arith}
use Rattle.search_laws.specs.{IsLeg, Leg}
use Rattle.phase_graph.specs.{marks_in, PhaseArc, arc_of, node_of, is_down, phase_meaning}
use Rattle.phase_graph.proofs.{LegLemmas.leg_is, LegLemmas.legs_few, PlaceLemmas.up_known}
use Rattle.phase_graph.proofs.phases.PhasesGraph.steady.Goals as goal

pub returns-clause-count : goal.returns-clause-count
returns-clause-count c = ap length (rw c.split-v.ensures at c.legs_at.ensures)

pub returns-clause-within : goal.returns-clause-within
returns-clause-within c =
    let h = c.args.self.now.hierarchy.now in
    let count = ap length (rw c.split-v.ensures at c.legs_at.ensures) in
    omega (arith, count, legs_few h (node_of c.args.p) (is_down c.args.p))

pub returns-clause-letter : goal.returns-clause-letter
returns-clause-letter c i lt =
    let self = c.args.self.now in
    let n = self.plain.network.now in
    let h = self.hierarchy.now in
    let v = node_of c.args.p in
    let down = is_down c.args.p in
    let count = ap length (rw c.split-v.ensures at c.legs_at.ensures) in
    let mode = rw (c.network.ensures, c.split-v.ensures) at c.letter.ensures in
    ap (λ (a : PhaseArc). (arc_of n self.plain.timetable.now h v down a).letter) (up_known n h v down i (omega (arith, lt, count, legs_few h v down))) ∙ sym mode

pub returns-clause-legs : goal.returns-clause-legs
returns-clause-legs c i d lt =
    let self = c.args.self.now in
    let g = phase_meaning self.plain.network.now self.plain.timetable.now self.hierarchy.now (marks_in self.falls.first.items) in
    let legs = rw c.split-v.ensures at c.legs_at.ensures in
    subst (λ (ls : List Leg). IsLeg g c.args.p i (get_or ls i d)) (sym legs)
    (leg_is self.plain.network.now self.hierarchy.now self.plain.timetable.now c.known.ensures c.args.p i d (marks_in self.falls.first.items) (subst (λ (ls : List Leg). i < length ls) legs lt))
