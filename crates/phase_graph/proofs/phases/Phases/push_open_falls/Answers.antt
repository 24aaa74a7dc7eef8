use Rattle.plan_base.proofs.Common.{◌*◌, ◌∙◌, ◌^◌, ◌<◌, ◌++◌, List, length, ap, refl, arith}
use Rattle.search_laws.specs.{Way}
use Rattle.phase_graph.specs.{marks_in, entries_at, first_entry, node_of, inside.falls_from}
use Rattle.phase_graph.proofs.{FallLemmas.all_appended, FallLemmas.chain_within, FallLemmas.falls_within, FallLemmas.next_appended, WayTies.fall_ways}
use Rattle.phase_graph.proofs.phases.Phases.push_open_falls.Goals as goal

pub loop-number-init : goal.loop-number-init
loop-number-init c =
    let self = c.args.self.now in
    let h = self.hierarchy.now in
    let v = node_of c.args.visit.node in
    record {
      left = falls_from h (marks_in self.falls.first.items) (first_entry h v) (entries_at h v);
      chain = rw (c.first_from-number.ensures, c.split-v.ensures) (self.chained v);
      within = falls_within h (marks_in self.falls.first.items) (first_entry h v) (entries_at h v);
      ways_are = refl;
    }

pub index-chained-requires : goal.index-chained-requires
index-chained-requires c =
    let within = chain_within _ _ c.loop-number.invariant.left c.loop-number.invariant.chain in
    omega (arith, within, c.loop-number-test.true)

pub fall_way-requires-clause-place : goal.fall_way-requires-clause-place
fall_way-requires-clause-place c =
    let next = next_appended _ _ _ _ _ _ _ c.loop-number.invariant c.loop-number-test.true _ c.index-chained.ensures in
    let first = rw c.split-v.ensures at c.entries_at-first.ensures.first in
    omega (arith, next.within.low, first)

pub fall_way-requires-clause-few : goal.fall_way-requires-clause-few
fall_way-requires-clause-few c =
    let next = next_appended _ _ _ _ _ _ _ c.loop-number.invariant c.loop-number-test.true _ c.index-chained.ensures in
    let first = rw c.split-v.ensures at c.entries_at-first.ensures.first in
    let count = rw c.split-v.ensures at c.entries_at-first.ensures.count in
    let ups : length c.rises_at.result.now * 4 < 2 ^ 63 = c.rises_at.type_inv.1 in
    omega (arith, next.within.high, first, count, c.entries_at-first.ensures.few, ups)

pub loop-number-smaller : goal.loop-number-smaller
loop-number-smaller c = (next_appended _ _ _ _ _ _ _ c.loop-number.invariant c.loop-number-test.true _ c.index-chained.ensures).less

pub loop-number-preserved : goal.loop-number-preserved
loop-number-preserved c =
    let next = next_appended _ _ _ _ _ _ _ c.loop-number.invariant c.loop-number-test.true _ c.index-chained.ensures in
    rw (c.in_ok-push.ensures.items, c.fall_way.ensures) next.far

pub returns : goal.returns
returns c =
    let self = c.args.self.now in
    let rises = rw c.split-v.ensures at c.rises_at.ensures.list in
    let first = rw c.split-v.ensures at c.entries_at-first.ensures.first in
    let letter = rw (c.network.ensures, c.split-v.ensures) at c.letter-letter.ensures in
    let all = all_appended _ _ _ _ _ _ _ c.loop-number.invariant c.loop-number-test.false in
    (rw (letter, first, rises) at all) ∙ ap (λ (ws : List Way). c.args.ways.now.items ++ ws)
    (fall_ways self.plain.network.now self.hierarchy.now self.plain.timetable.now (marks_in self.falls.first.items) c.args.visit.node c.args.visit.at c.args.visit.letters c.requires.opens)
