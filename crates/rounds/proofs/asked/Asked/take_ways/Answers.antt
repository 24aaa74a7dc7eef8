use Rattle.plan_base.proofs.Common.{None, subst, arith, take, take_all, All, All-more, All-weaker, or_parts}
use Rattle.search_laws.specs.{Way}
use Rattle.rounds.specs.inside.{asked_of, WayIsCrossed}
use Rattle.rounds.proofs.VisitLemmas.{IsAny, taken_then, way_stays}
use Rattle.rounds.proofs.asked.Asked.take_ways.Goals as goal

pub loop-way-preserved : goal.loop-way-preserved
loop-way-preserved g c =
    let a = asked_of {l = g.L.Labels} c.args.self.now in
    let q = c.args.state in
    let ways = c.args.ways.now in
    let k = c.loop-way.way-index in
    let before = c.loop-way.rows.items in
    let now = c.take.new.rows.items in
    let taken = c.in_ok-changed.ensures.taken in
    let none : Way = record { place = 0; arc = record { to = 0; letter = None }; at = 0 } in
    record {
      taken = taken_then a c.args.rows.now.items before now c.loop-way.changed c.in_ok-changed.field-0 _ (or_parts c.loop-way.changed c.in_ok-changed.field-0) c.loop-way.invariant.taken taken;
      crossed = All-more (WayIsCrossed a now q) ways k none c.loop-way-test.true
          (All-weaker (WayIsCrossed a before q) (WayIsCrossed a now q) (way_stays a IsAny before now taken.lowered q) (take k ways) c.loop-way.invariant.crossed) c.in_ok-changed.ensures.crossed;
    }

pub returns-clause-crossed : goal.returns-clause-crossed
returns-clause-crossed g c =
    subst (All (WayIsCrossed (asked_of {l = g.L.Labels} c.args.self.now) c.loop-way.rows.items c.args.state)) (take_all c.loop-way.way-index c.args.ways.now (omega (arith, c.loop-way-test.false))) c.loop-way.invariant.crossed
