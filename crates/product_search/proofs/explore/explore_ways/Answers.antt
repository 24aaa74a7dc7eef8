use Rattle.plan_base.proofs.Common.{◌<◌, length, None, get_or, subst, arith}
use Rattle.search_laws.specs.{Way}
use Rattle.product_search.specs.inside.{Offers, IsByWay, WayIsReached}
use Rattle.product_search.proofs.OfferLemmas.{offers_next, holds_next, way_keeps}
use Rattle.product_search.proofs.explore.explore_ways.Goals as goal

blank : Way
blank = record { place = 0; arc = record { to = 0; letter = None }; at = 0 }

pub loop-way-preserved : goal.loop-way-preserved
unfolding blank
loop-way-preserved g c =
    let l = g.L.Labels.automaton c.args.machine.now.labels in
    let s = c.args.from in
    let ways = c.args.ways.now in
    let i = c.loop-way.way-index in
    let begin = c.args.frontier.now in
    let old = c.loop-way.frontier in
    let new = c.explore_way.new.frontier in
    let inside : i < length ways = omega arith in
    let offers : Offers old new (IsByWay l begin.base s (get_or ways i blank)) =
    subst (λ b. Offers old new (IsByWay l b s (get_or ways i blank))) c.loop-way.invariant.offers.base c.in_ok-explore_way.ensures.offers in
    record {
      right = c.in_ok-explore_way.ensures.right;
      offers = offers_next (IsByWay l begin.base s) ways i blank inside begin old new c.loop-way.invariant.offers offers;
      reached = holds_next (WayIsReached l old s.state) (WayIsReached l new s.state) ways i blank inside
          (λ way. way_keeps l old new (IsByWay l begin.base s (get_or ways i blank)) offers s.state way)
          c.loop-way.invariant.reached c.in_ok-explore_way.ensures.reached;
    }
