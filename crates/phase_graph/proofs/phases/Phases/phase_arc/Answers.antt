use Rattle.plan_base.proofs.Common.{◌+◌, ◌-◌, ◌<◌, length, sym, subst, arith, slice_get-get_or}
use Rattle.timetable_arcs.specs.{IsTable}
use Rattle.hierarchy.specs.{entry_at, no_entry}
use Rattle.phase_graph.specs.{rises_at, entries_at, others_at, node_of, is_down}
use Rattle.phase_graph.proofs.{PlaceLemmas.up_known, PlaceLemmas.down_known, PlaceLemmas.other_known, PlaceLemmas.other_fits, WayTies.few_others}
use Rattle.phase_graph.proofs.phases.Phases.phase_arc.Goals as goal

pub returns-then-i-ups-clause-value : goal.returns-then-i-ups-clause-value
returns-then-i-ups-clause-value c =
    let self = c.args.self.now in
    let rises = rw c.split-v.ensures at c.rises_at-rises.ensures.list in
    rw rises (sym (up_known self.plain.network.now self.hierarchy.now (node_of c.args.p) (is_down c.args.p) c.args.i (rw rises at c.if-i-ups.true)))

pub returns-then-i-ups-2-clause-value : goal.returns-then-i-ups-2-clause-value
returns-then-i-ups-2-clause-value c =
    let self = c.args.self.now in
    let rises = rw c.split-v.ensures at c.rises_at-rises.ensures.list in
    let first = rw c.split-v.ensures at c.entries_at-first.ensures.first in
    let entries = rw c.split-v.ensures at c.entries_at-first.ensures.count in
    let past = rw rises at c.if-i-ups.false in
    let inside = rw (rises, entries) at c.if-i-ups-2.true in
    rw (rises, first) (sym (down_known self.plain.network.now self.hierarchy.now (node_of c.args.p) (is_down c.args.p) c.args.i (omega (arith, past)) inside))

pub overflow_add-result : goal.overflow_add-result
overflow_add-result c = omega (arith, c.entries_at-first.ensures.few, c.if-i-ups-2.true)

pub returns-then-i-ups-2-clause-fits : goal.returns-then-i-ups-2-clause-fits
returns-then-i-ups-2-clause-fits c =
    let h = c.args.self.now.hierarchy.now in
    let from = rw c.split-v.ensures at c.entries_at-first.ensures.are in
    let place = c.entries_at-first.result.0 + (c.args.i - length c.rises_at-rises.result.now) in
    let lt : place < length h.entries = omega (arith, c.if-i-ups-2.true, from.within) in
    (lt, from.inside place (entry_at h.entries place) (omega arith) (omega (arith, c.if-i-ups-2.true)) (slice_get-get_or h.entries place no_entry lt))

pub returns-else-i-ups-2-clause-value : goal.returns-else-i-ups-2-clause-value
returns-else-i-ups-2-clause-value c =
    let self = c.args.self.now in
    let rises = rw c.split-v.ensures at c.rises_at-rises.ensures.list in
    let entries = rw c.split-v.ensures at c.entries_at-first.ensures.count in
    let first = rw c.split-v.ensures at c.first_other.ensures.value in
    let past = rw rises at c.if-i-ups.false in
    let behind = rw (rises, entries) at c.if-i-ups-2.false in
    rw (rises, entries, first)
    (sym (other_known self.plain.network.now self.hierarchy.now (node_of c.args.p) (is_down c.args.p) c.args.i (omega (arith, past)) (omega (arith, behind))))

pub overflow_add-result-else-i-ups-2 : goal.overflow_add-result-else-i-ups-2
overflow_add-result-else-i-ups-2 c =
    let self = c.args.self.now in
    let rises = rw c.split-v.ensures at c.rises_at-rises.ensures.list in
    let entries = rw c.split-v.ensures at c.entries_at-first.ensures.count in
    let small = c.first_other.ensures.small in
    let within = c.requires.arc in
    let few = few_others self.plain.network.now self.plain.kept self.plain.timetable.now (subst IsTable c.timetable.ensures.same c.timetable.ensures.keeps) (node_of c.args.p) (is_down c.args.p) in
    rw (rises, entries) (omega (arith, small, within, few))

pub returns-else-i-ups-2-clause-fits : goal.returns-else-i-ups-2-clause-fits
returns-else-i-ups-2-clause-fits c =
    let self = c.args.self.now in
    let rises = rw c.split-v.ensures at c.rises_at-rises.ensures.list in
    let entries = rw c.split-v.ensures at c.entries_at-first.ensures.count in
    let first = rw c.split-v.ensures at c.first_other.ensures.value in
    let past = rw rises at c.if-i-ups.false in
    let behind = rw (rises, entries) at c.if-i-ups-2.false in
    let within = c.requires.arc in
    let k = c.args.i - length (rises_at self.hierarchy.now (node_of c.args.p) (is_down c.args.p)) - entries_at self.hierarchy.now (node_of c.args.p) in
    let inside : k < others_at self.plain.network.now self.plain.timetable.now (node_of c.args.p) (is_down c.args.p) = omega (arith, past, behind, within) in
    rw (rises, entries, first) (other_fits self.plain.network.now self.plain.timetable.now (node_of c.args.p) (is_down c.args.p) k inside)
