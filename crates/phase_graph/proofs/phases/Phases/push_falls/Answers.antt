use Rattle.plan_base.proofs.Common.{◌≤◌, ◌∙◌, ap, arith, sym, slice_index_or}
use Rattle.search_laws.specs.{is_open}
use Rattle.phase_graph.specs.{marks_in, node_of}
use Rattle.phase_graph.proofs.{FallLemmas.chain_ended, WayTies.falls_closed, WayTies.falls_ended, phases.Phases.push_falls.Goals.else-first_from-gt1-via-then-first_from-gt1+else-is_open, phases.Phases.push_falls.Goals.else-first_from-gt1-via-else-first_from-gt1}
use Rattle.phase_graph.proofs.phases.Phases.push_falls.Goals as goal

pub returns-else-first_from-gt1 : goal.returns-else-first_from-gt1
returns-else-first_from-gt1 c =
    let self = c.args.self.now in
    let n = self.plain.network.now in
    let table = self.plain.timetable.now in
    let h = self.hierarchy.now in
    let marks = marks_in self.falls.first.items in
    let p = c.args.visit.node in
    elim c.else-first_from-gt1.branch [
      | else-first_from-gt1-via-then-first_from-gt1+else-is_open w ↦ (
          let mode = rw w.network.ensures at w.letter.ensures in
          falls_closed n h table marks p c.args.visit.at c.args.visit.letters c.args.ways.now.items (ap (is_open c.args.visit.letters) (sym mode) ∙ sym w.is_open.ensures ∙ w.if-is_open.false)
          )
      | else-first_from-gt1-via-else-first_from-gt1 w ↦ (
          let none : slice_index_or self.falls.first.items (node_of p) 0 ≤ 1 = omega (arith, c.first_from.ensures, w.if-first_from-gt1.false) in
          falls_ended n h table marks p c.args.visit.at c.args.visit.letters c.args.ways.now.items (chain_ended self.falls.all.items (slice_index_or self.falls.first.items (node_of p) 0) _ (self.chained (node_of p)) none)
          )
    ]
