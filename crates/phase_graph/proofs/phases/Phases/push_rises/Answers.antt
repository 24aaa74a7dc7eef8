use Rattle.plan_base.proofs.Common.{◌≡◌, ◌+◌, ◌-◌, ◌++◌, ◌∙◌, ℕ, length, ap, arith, sym, subst, IfSome}
use Rattle.search_laws.specs.{IsLetter, ways_from, GraphArc}
use Rattle.search_laws.proofs.WayLemmas.{ways_pushed}
use Rattle.phase_graph.specs.{marks_in, is_down, node_of, phase_meaning, rises_at}
use Rattle.phase_graph.proofs.phases.Phases.push_rises.Goals as goal

pub arc_at-arc-requires-clause-arc : goal.arc_at-arc-requires-clause-arc
arc_at-arc-requires-clause-arc c =
    let rises = ap length (rw c.split-v.ensures at c.rises_at.ensures.list) in
    omega (arith, c.loop-i-test.true, rises)

pub arrive-at-requires-clause-arc : goal.arrive-at-requires-clause-arc
arrive-at-requires-clause-arc c =
    let rises = ap length (rw c.split-v.ensures at c.rises_at.ensures.list) in
    omega (arith, c.loop-i-test.true, rises)

pub push_way-requires : goal.push_way-requires
push_way-requires c =
    let self = c.args.self.now in
    let rises = ap length (rw c.split-v.ensures at c.rises_at.ensures.list) in
    subst (λ (arc : GraphArc). IfSome arc.letter IsLetter) (sym c.arc_at-arc.ensures)
    (self.lawful.letter_in_range c.args.visit.node c.loop-i.i (record { node = omega (arith, c.requires.node); arc = omega (arith, c.loop-i-test.true, rises) }))

pub loop-i-preserved : goal.loop-i-preserved
loop-i-preserved c =
    let self = c.args.self.now in
    let g = phase_meaning self.plain.network.now self.plain.timetable.now self.hierarchy.now (marks_in self.falls.first.items) in
    let i = c.loop-i.i in
    let visit = c.args.visit in
    let before = c.args.ways.now.items in
    let here : i - 0 ≡ i = omega arith in
    let next : i + 1 - 0 ≡ i + 1 = omega arith in
    let so_far = subst (λ (k : ℕ). c.loop-i.ways.items ≡ before ++ ways_from g visit.node visit.at visit.letters 0 k) (sym here) c.loop-i.invariant.far in
    record {
      far = subst (λ (k : ℕ). c.push_way.new.ways.items ≡ before ++ ways_from g visit.node visit.at visit.letters 0 k) next
          (ways_pushed g visit.node visit.at visit.letters 0 i before c.loop-i.ways.items c.push_way.new.ways.items c.arc_at-arc.result c.arrive-at.result (omega arith) so_far
          c.arc_at-arc.ensures c.arrive-at.ensures c.in_ok-push_way.ensures);
      within = omega (arith, c.loop-i-test.true);
    }

pub returns : goal.returns
returns c =
    let self = c.args.self.now in
    let g = phase_meaning self.plain.network.now self.plain.timetable.now self.hierarchy.now (marks_in self.falls.first.items) in
    let visit = c.args.visit in
    let rises = ap length (rw c.split-v.ensures at c.rises_at.ensures.list) in
    let whole : c.loop-i.i ≡ length (rises_at self.hierarchy.now (node_of visit.node) (is_down visit.node)) = omega (arith, c.loop-i-test.false, c.loop-i.invariant.within, rises) in
    c.loop-i.invariant.far ∙ ap (λ k. c.args.ways.now.items ++ ways_from g visit.node visit.at visit.letters 0 k) whole
