use Rattle.plan_base.proofs.Common.{◌≡◌, ◌<◌, ◌∙◌, List, length, get_or, ap, arith, get_or_default, get_or-map, length-map, slice_get-get_or}
use Rattle.hierarchy.specs.{Entry, Fall, fall_at, no_entry}
use Rattle.hierarchy.proofs.FallLemmas.{into_node}
use Rattle.phase_graph.specs.inside.{places_into}
use Rattle.phase_graph.proofs.MarkLemmas.{following_more, followed_all}
use Rattle.phase_graph.proofs.marks.follow.Goals as goal

pub loop-fall-preserved : goal.loop-fall-preserved
loop-fall-preserved c =
    let h = c.args.h.now in
    let places = places_into h c.args.x in
    let n = c.loop-fall.fall-index in
    let k = get_or places n 0 in
    let into = into_node h.order h.entries c.args.x in
    let e = get_or h.entries k no_entry in
    let long = ap length c.falls_into-fall-items.ensures ∙ length-map places (fall_at h.entries) in
    let inside : n < length places = omega (arith, c.loop-fall-test.true, long) in
    let lt : k < length h.entries = into.within n 0 inside in
    let k_is = λ (d : _). get_or_default places n d 0 inside in
    let e_is = λ (d : Entry). get_or_default h.entries k d no_entry lt in
    let falls = into.each k e (n, inside, k_is k) (slice_get-get_or h.entries k no_entry lt) in
    let from : (get_or c.falls_into-fall-items.result.now n (record { from = 0; place = 0; weight = 0 })).from ≡ e.from =
    ap (λ (fs : List Fall). (get_or fs n (record { from = 0; place = 0; weight = 0 })).from) c.falls_into-fall-items.ensures
    ∙ ap (λ (f : Fall). f.from) (get_or-map (fall_at h.entries) places n 0 (record { from = 0; place = 0; weight = 0 }) inside) in
    let done = rw from at c.in_ok-mark.ensures in
    following_more h c.args.targets.now c.args.nodes c.args.x places c.loop-fall.numbers.items c.loop-fall.queue.items c.args.queue.now.items n c.loop-fall.invariant inside k k_is e lt e_is
    falls.ends falls.above c.requires.marked c.mark.new.numbers.items c.mark.new.queue.items done.marks (done.here (c.requires.below.entries k no_entry lt).0) done.kept done.only

pub returns-clause-followed : goal.returns-clause-followed
returns-clause-followed c =
    let h = c.args.h.now in
    let places = places_into h c.args.x in
    let long = ap length c.falls_into-fall-items.ensures ∙ length-map places (fall_at h.entries) in
    followed_all h c.loop-fall.queue.items c.args.x places (into_node h.order h.entries c.args.x) c.loop-fall.fall-index (omega (arith, c.loop-fall-test.false, long)) c.loop-fall.invariant.followed
