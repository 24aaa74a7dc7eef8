use Rattle.plan_base.proofs.Common.{◌+◌, ◌*◌, ◌^◌, ◌<◌, length, refl, arith, on_ok_weaker}
use Rattle.search_laws.specs.{ways_from}
use Rattle.search_laws.proofs.FreshLemmas.{adds_all}
use Rattle.phase_graph.specs.{marks_in, phase_meaning, phase_rides, rises_at, entries_at, others_at, node_of, is_down}
use Rattle.phase_graph.proofs.phases.Phases.push_fresh_others.Goals as goal

pub overflow_add-first : goal.overflow_add-first
overflow_add-first c =
    let ups : length c.rises_at.result.now * 4 < 2 ^ 63 = c.rises_at.type_inv.1 in
    omega (arith, c.entries_at.ensures.few, ups)

pub push_fresh_plain-requires-clause-few : goal.push_fresh_plain-requires-clause-few
push_fresh_plain-requires-clause-few c =
    let ups : length c.rises_at.result.now * 4 < 2 ^ 63 = c.rises_at.type_inv.1 in
    omega (arith, c.entries_at.ensures.few, ups)

pub push_stand-requires-clause-first : goal.push_stand-requires-clause-first
push_stand-requires-clause-first c =
    let rises = rw c.split-v.ensures at c.rises_at.ensures.list in
    let entries = rw c.split-v.ensures at c.entries_at.ensures.count in
    rw (rises, entries) refl

pub push_fresh_plain-requires-clause-first : goal.push_fresh_plain-requires-clause-first
push_fresh_plain-requires-clause-first c =
    let rises = rw c.split-v.ensures at c.rises_at.ensures.list in
    let entries = rw c.split-v.ensures at c.entries_at.ensures.count in
    rw (rises, entries) refl

pub returns-then-down : goal.returns-then-down
returns-then-down c =
    let self = c.args.self.now in
    let n = self.plain.network.now in
    let table = self.plain.timetable.now in
    let h = self.hierarchy.now in
    let v = node_of c.args.visit.node in
    let down = is_down c.args.visit.node in
    let rises = rw c.split-v.ensures at c.rises_at.ensures.list in
    let entries = rw c.split-v.ensures at c.entries_at.ensures.count in
    on_ok_weaker c.push_stand.result
    (adds_all (phase_rides n table) c.args.visit.state c.args.given.now (ways_from (phase_meaning n table h (marks_in self.falls.first.items)) c.args.visit.node c.args.visit.at c.args.visit.letters (length (rises_at h v down) + entries_at h v) (others_at n table v down))
    c.args.ways.now.items c.push_stand.new.ways.items)
    (rw (rises, entries) at c.push_stand.ensures)

pub returns-else-down : goal.returns-else-down
returns-else-down c =
    let rises = rw c.split-v.ensures at c.rises_at.ensures.list in
    let entries = rw c.split-v.ensures at c.entries_at.ensures.count in
    rw (rises, entries) at c.push_fresh_plain.ensures
