use Rattle.plan_base.proofs.Common.{◌∙◌, ◌<◌, List, length, get_or, sym, subst, All, take_all, dedup_is}
use Rattle.witness.specs.{Edge}
use Rattle.contractor.specs.{declared.way.Side.Side, inside.AreWaysWith}
use Rattle.contractor.proofs.{RowLemmas.row_read, WayLemmas.AreWaysSoFar, WayLemmas.sides_more, WayLemmas.in_order, WayLemmas.same_is}
use Rattle.contractor.proofs.ways.ways_by.Goals as goal

pub first-preserved : goal.first-preserved
first-preserved c =
    let rows = c.args.layer.now.rows.items in
    let first = c.deref-side-items.result.now in
    let d : Side = record { node = 0; weight = 0 } in
    let side = get_or first c.first.side-index d in
    let low = subst (λ (ss : List Side). All (λ (s : Side). s.node < length rows) ss) (sym c.deref-side-items.ensures.value) c.requires.nodes c.first.side-index d c.first-test.true in
    let row = c.deref-in-first.ensures.value ∙ sym (row_read rows side.node c.index-row.result.now low c.index-row.ensures) in
    sides_more rows first c.args.sides.now.second.items c.first.ways.items c.push_ways.new.ways.items c.first.side-index d c.first-test.true c.first.invariant
    (subst (λ (es : List Edge). AreWaysWith es side c.args.sides.now.second.items c.first.ways.items c.push_ways.new.ways.items) row
    (subst (λ (es : List Edge). AreWaysWith c.deref-in-first.result.now side es c.first.ways.items c.push_ways.new.ways.items) c.deref-in-first-2.ensures.value c.in_ok-push_ways.ensures))

pub returns : goal.returns
returns c = in_order c.args.layer.now.rows.items c.args.sides.now.first.items c.args.sides.now.second.items c.first.ways.items c.sort.new.self.items c.dedup.new.self.items
    (subst (λ (ss : List Side). AreWaysSoFar c.args.layer.now.rows.items ss c.args.sides.now.second.items c.first.ways.items) (take_all c.first.side-index c.deref-side-items.result.now c.first-test.false ∙ c.deref-side-items.ensures.value) c.first.invariant)
    c.in_ok-sort.ensures.permutation c.in_ok-sort.ensures.sorted _ same_is (dedup_is _ _ _ c.dedup.ensures.filtered)
