use Rattle.plan_base.proofs.Common.{below_more, HoldsAt}
use Rattle.mode_network.specs.{Arc}
use Rattle.hierarchy.specs.{IsCovered}
use Rattle.hierarchy_check.proofs.PlaceLemmas.{fails_first, holds_at, all_hold}
use Rattle.hierarchy_check.proofs.entries.first_uncovered.Goals as goal

abbrev nothing : Arc
nothing = record { from = 0; to = 0; ms = 0 }

pub returns-then-not-is_covered : goal.returns-then-not-is_covered
returns-then-not-is_covered c =
    rw (← c.arcs-arcs.ensures) (fails_first (IsCovered c.args.h.now) c.arcs-arcs.result.now c.loop-at.at nothing c.is_covered.result c.loop-at-test.true c.is_covered.ensures c.if-not-is_covered.true c.loop-at.invariant)

pub loop-at-preserved : goal.loop-at-preserved
loop-at-preserved c =
    below_more (HoldsAt (IsCovered c.args.h.now) c.arcs-arcs.result.now) c.loop-at.at c.loop-at.invariant
    (holds_at (IsCovered c.args.h.now) c.arcs-arcs.result.now c.loop-at.at nothing c.is_covered.result c.loop-at-test.true c.is_covered.ensures c.if-not-is_covered.false)

pub returns : goal.returns
returns c = rw (← c.arcs-arcs.ensures) (all_hold (IsCovered c.args.h.now) c.arcs-arcs.result.now c.loop-at.at c.loop-at-test.false c.loop-at.invariant)
