use Rattle.plan_base.proofs.Common.{◌≤◌, List, [], None, length, get_or, subst}
use Rattle.mode_network.specs.{Arc}
use Rattle.contractor.specs.inside.{IsEntryPlaced}
use Rattle.contractor.proofs.{PutLemmas.placeable, BeginLemmas.arc_at, BeginLemmas.arc_low, BeginLemmas.arcs_more, BeginLemmas.begun}
use Rattle.contractor.proofs.beginning.begin.Goals as goal

abbrev nothing : Arc
nothing = record { from = 0; to = 0; ms = 0 }

pub place-requires : goal.place-requires
place-requires c =
    let k = c.arcs.arc-index in
    let arc = get_or c.arcs-arc-items.result.now k nothing in
    let at = arc_at c.args.network.now c.arcs-arc-items.result.now k nothing c.arcs-arc-items.ensures c.arcs-test.true in
    let low = arc_low c.args.network.now c.known.ensures k arc at.0 at.1 c.arcs.layer c.arcs.layer c.arcs.invariant in
    placeable [] c.arcs.layer c.arcs.invariant.layer (record { from = arc.from; to = arc.to; weight = c.from.result; via = None }) low.0 low.1

pub arcs-preserved : goal.arcs-preserved
arcs-preserved c =
    let k = c.arcs.arc-index in
    let arc = get_or c.arcs-arc-items.result.now k nothing in
    let at = arc_at c.args.network.now c.arcs-arc-items.result.now k nothing c.arcs-arc-items.ensures c.arcs-test.true in
    arcs_more c.args.network.now c.known.ensures k arc at.0 at.1 c.arcs.layer c.place.new.layer c.arcs.invariant
    (subst (λ w. IsEntryPlaced c.arcs.layer c.place.new.layer (record { from = arc.from; to = arc.to; weight = w; via = None })) c.from.ensures c.in_ok-place.ensures)

pub returns-clause-state : goal.returns-clause-state
returns-clause-state c =
    begun c.args.network.now c.arcs.layer c.arcs.arc-index c.known.ensures (subst (λ (xs : List Arc). length xs ≤ c.arcs.arc-index) c.arcs-arc-items.ensures c.arcs-test.false) c.arcs.invariant
