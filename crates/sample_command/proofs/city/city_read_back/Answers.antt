use Rattle.plan_base.proofs.Common.{sym, subst, IfOk-weaker}
use Rattle.sample_city.specs.{IsSampleCity}
use Rattle.sample_command.proofs.city.city_read_back.Goals as goal

pub returns : goal.returns
returns c = IfOk-weaker c.read_back.result _ _ (λ again is. subst (IsSampleCity c.args.n) (sym is) c.in_ok-city.ensures.city) c.read_back.ensures
