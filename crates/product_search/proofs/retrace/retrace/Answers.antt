use Rattle.plan_base.proofs.Common.{length, refl, arith, slice_get_read}
use Rattle.product_search.specs.inside.{rows, ways}
use Rattle.product_search.proofs.TrailLemmas.{back_begins, back_on, back_ends, way_to_within, row_within, parent_within, parent_falls}
use Rattle.product_search.proofs.retrace.retrace.Goals as goal

pub back-init : goal.back-init
back-init c =
    let f = c.args.frontier.now in
    back_begins f c.args.end.link c.requires.link c.index-way.result.now _
    (slice_get_read (ways f) (length (ways f)) _ _ refl (way_to_within f c.args.end.link c.requires.link) c.index-way.ensures) c.new-hops.ensures.items

pub index-way-requires-in-back : goal.index-way-requires-in-back
index-way-requires-in-back c =
    let lt = parent_within c.args.frontier.now c.requires.parents c.back.invariant.number c.back.way c.back.invariant.known c.back-test.true in omega (arith, lt)

pub back-smaller : goal.back-smaller
back-smaller c =
    let f = c.args.frontier.now in
    let lt = parent_within f c.requires.parents c.back.invariant.number c.back.way c.back.invariant.known c.back-test.true in
    parent_falls f c.requires.parents c.back.invariant.number c.back.way c.index-way-in-back.result.now c.back.invariant.known c.back-test.true
    (slice_get_read (ways f) (length (ways f)) _ _ refl lt c.index-way-in-back.ensures)

pub back-preserved : goal.back-preserved
back-preserved c =
    let f = c.args.frontier.now in
    back_on f c.args.end.link c.back.way c.index-way-in-back.result.now c.index-row.result.now c.time.result c.back.hops.items _ c.back.invariant c.back-test.true
    (slice_get_read (rows f) (length (rows f)) _ _ refl (row_within f c.requires.parents c.back.invariant.number c.back.way c.back.invariant.known) c.index-row.ensures)
    c.time.ensures.at c.time.ensures.soon
    (slice_get_read (ways f) (length (ways f)) _ _ refl (parent_within f c.requires.parents c.back.invariant.number c.back.way c.back.invariant.known c.back-test.true)
    c.index-way-in-back.ensures) c.in_ok-push.ensures.items

pub index-row-requires-2 : goal.index-row-requires-2
index-row-requires-2 c =
    let lt = row_within c.args.frontier.now c.requires.parents c.back.invariant.number c.back.way c.back.invariant.known in omega (arith, lt)

pub returns : goal.returns
returns c =
    let f = c.args.frontier.now in
    back_ends f c.args.end.link c.back.way c.index-row-2.result.now c.back.hops.items _ c.back.invariant c.back-test.false
    (slice_get_read (rows f) (length (rows f)) _ _ refl (row_within f c.requires.parents c.back.invariant.number c.back.way c.back.invariant.known) c.index-row-2.ensures)
    refl refl c.time-2.ensures.at c.time-2.ensures.soon c.reverse.ensures.items
