use Rattle.plan_base.proofs.Common.{ℕ, sym, ◌∙◌, ap, subst, arith, Option, All-contains, on_ok_weaker}
use Rattle.search_laws.specs.{Follows, HasMove}
use Rattle.product_search.specs.{declared.row.Reached.Reached, inside.IsByWay, inside.IsGivenIn, inside.way_by}
use Rattle.product_search.proofs.OfferLemmas.{offers_weaker, delay_is}
use Rattle.product_search.proofs.explore.explore_way.Goals as goal

pub returns-in-Some-clause-offers : goal.returns-in-Some-clause-offers
returns-in-Some-clause-offers g c =
    let l = g.L.Labels.automaton c.args.machine.now.labels in
    let old = c.args.frontier.now in
    let new = c.offer_moves.new.frontier in
    let from = c.args.from in
    let way = c.args.way in
    let states = c.targets_of.result.now in
    on_ok_weaker c.offer_moves.result (offers_weaker old new (IsGivenIn states way.arc.to c.way_by-reached.result) (IsByWay l old.base from way) (λ w r x by.
    let is = by.2 in
    let made = is.as_given ∙ c.way_by-reached.ensures in
    let delay = ap (λ (y : Reached). y.delay) made ∙ c.delay.ensures in
    record {
      arrives = omega (arith, delay, delay_is old.base way.at (omega (arith, delay, is.soon)), c.requires.time);
      node = is.node;
      state = subst (λ (o : Option ℕ). Follows l from.state o r) (sym c.in-Some.is)
          (subst (HasMove l from.state c.in-Some.letter) (sym is.state) (All-contains (HasMove l from.state c.in-Some.letter) states by.0 c.targets_of.ensures.are by.1));
      as_made = made ∙ ap (way_by from way.place) (sym (ap (λ (y : Reached). y.delay) made));
    })) c.offer_moves.ensures.offers
