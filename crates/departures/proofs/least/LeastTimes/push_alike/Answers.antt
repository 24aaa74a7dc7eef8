use Rattle.plan_base.proofs.Common.{◌≡◌, ◌∙◌, true, false, sym, ap, arith}
use Rattle.search_laws.specs.{GraphArc, is_open}
use Rattle.departures.specs.{least_meaning}
use Rattle.plain_graph.proofs.PlaceTies.{nothing_more}
use Rattle.departures.proofs.WayLemmas.{closed_ways, more_ways}
use Rattle.departures.proofs.least.LeastTimes.push_alike.Goals as goal

pub is_open-requires : goal.is_open-requires
is_open-requires c =
    let s = c.args.self.now in
    rw c.arc_at.ensures (s.lawful.letter_in_range c.args.visit.node c.args.first (record { node = c.requires.node; arc = omega (arith, c.requires.some, c.requires.within) }))

pub loop-place-preserved : goal.loop-place-preserved
loop-place-preserved c =
    let s = c.args.self.now in
    let g = least_meaning s.plain.network.now s.plain.timetable.now s.runs.items in
    let inv = c.loop-place.invariant in
    let next = c.in_ok-place.place in
    let later = c.in_ok-place.ensures.later in
    let first : is_open c.args.visit.letters c.arc_at.result.letter ≡ true = sym c.is_open.ensures ∙ c.if-is_open.true in
    let same = c.requires.alike c.loop-place.place inv.from c.loop-place-test.true in
    let opens : is_open c.args.visit.letters (g.arc_at c.args.visit.node c.loop-place.place).letter ≡ true =
    ap (is_open c.args.visit.letters) (same ∙ ap (λ (a : GraphArc). a.letter) (sym c.arc_at.ensures)) ∙ first in
    record {
      from = omega (arith, inv.from, later);
      within = c.in_ok-place.ensures.within;
      ways = more_ways g c.args.visit.node c.args.visit.at c.args.visit.letters c.args.first c.loop-place.place next c.args.ways.now.items c.loop-place.ways.items c.push_next.new.ways.items
          inv.from (omega (arith, later)) inv.ways (c.in_ok-place.ensures.ways c.args.visit.letters opens);
    }

pub returns-else-is_open : goal.returns-else-is_open
returns-else-is_open c =
    let s = c.args.self.now in
    let g = least_meaning s.plain.network.now s.plain.timetable.now s.runs.items in
    let closed : is_open c.args.visit.letters (g.arc_at c.args.visit.node c.args.first).letter ≡ false =
    ap (λ (a : GraphArc). is_open c.args.visit.letters a.letter) (sym c.arc_at.ensures) ∙ sym c.is_open.ensures ∙ c.if-is_open.false in
    nothing_more c.args.ways.now.items _ (closed_ways g c.args.visit.node c.args.visit.at c.args.visit.letters c.args.first c.args.past c.requires.some c.requires.alike closed)
