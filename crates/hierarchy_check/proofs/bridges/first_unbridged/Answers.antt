use Rattle.plan_base.proofs.Common.{length, refl, subst, slice_get_read}
use Rattle.hierarchy.specs.{NodeIsBridged}
use Rattle.hierarchy_check.proofs.bridges.first_unbridged.Goals as goal

pub returns-in_err-at : goal.returns-in_err-at
returns-in_err-at c =
    let at = rw c.order.ensures at c.in_ok-x.ensures.lookup.3 in
    absurd (c.lowest_unbridged-place.ensures.fails at.0 (λ d. subst (NodeIsBridged c.args.h.now) (at.1 d) c.in_err-at.ensures))

pub returns : goal.returns
returns c =
    let order = c.args.h.now.order in
    let place = c.lowest_unbridged-place.result in
    let at = rw c.order.ensures at c.in_ok-x.ensures.lookup.3 in
    record {
      x = c.in_ok-x.x.now;
      node_is = slice_get_read order (length order) place c.in_ok-x.x.now refl at.0 (at.1 c.in_ok-x.x.now);
      node_fails = record { place = at.0; fails = c.lowest_unbridged-place.ensures.fails at.0; before = c.lowest_unbridged-place.ensures.before };
      pair = c.in_ok-at.ensures;
    }
