use Rattle.plan_base.proofs.Common.{◌≡◌, length, subst, arith}
use Rattle.timetable_arcs.specs.{IsTable}
use Rattle.phase_graph.specs.{marks_in, node_of}
use Rattle.phase_graph.proofs.WayTies.{some_fit, put_fresh_behind}
use Rattle.phase_graph.proofs.phases.Phases.push_fresh_plain.Goals as goal

pub renumber-requires-clause-fits : goal.renumber-requires-clause-fits
renumber-requires-clause-fits c =
    let self = c.args.self.now in
    let n = self.plain.network.now in
    let long : c.len-before.result ≡ length c.args.ways.now.items = omega (arith, c.len-before.ensures) in
    let keeps = subst IsTable c.timetable.ensures.same c.timetable.ensures.keeps in
    let (fresh, behind, are) = c.in_ok-push_fresh_past_roads.ensures in
    rw (long, c.arcs_from-first_arc.ensures.range, c.network.ensures)
    (some_fit n self.plain.kept self.plain.timetable.now keeps self.plain.of (node_of c.args.visit.node) c.args.visit.at c.args.visit.letters c.requires.node
    c.args.ways.now.items fresh c.push_fresh_past_roads.new.ways.items behind are.are)

pub returns : goal.returns
returns c =
    let self = c.args.self.now in
    let n = self.plain.network.now in
    let table = self.plain.timetable.now in
    let long : c.len-before.result ≡ length c.args.ways.now.items = omega (arith, c.len-before.ensures) in
    let done = rw (long, c.arcs_from-first_arc.ensures.range, c.network.ensures, c.requires.first) at c.renumber.ensures in
    rw c.requires.first
    (put_fresh_behind n self.hierarchy.now table (marks_in self.falls.first.items) c.args.visit.node c.args.visit.at c.args.visit.letters c.requires.phase c.args.visit.state c.args.given.now c.push_fresh_past_roads.new.given
    c.args.ways.now.items c.push_fresh_past_roads.new.ways.items c.renumber.new.ways.items c.in_ok-push_fresh_past_roads.ensures done)
