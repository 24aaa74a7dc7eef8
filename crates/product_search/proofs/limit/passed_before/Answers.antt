use Rattle.plan_base.proofs.Common.{◌≡◌, ◌<◌, Some, subst, arith, IfSome_then}
use Rattle.product_search.specs.inside.{HasMoreBefore}
use Rattle.product_search.proofs.limit.passed_before.Goals as goal

pub returns : goal.returns
returns c = IfSome_then c.passed.result {Q = λ most. (c.args.limit ≡ Some most) × HasMoreBefore c.args.frontier.now most} c.passed.ensures.more (λ most (is, more). (
  is,
  record {
    until = c.min.result;
    none = λ k r known waits. omega (arith, c.min.ensures, c.floor.ensures k r waits);
    wanted = omega (arith, c.min.ensures);
    more = subst (λ n. most < n) c.count_labels.ensures more;
  },
))
