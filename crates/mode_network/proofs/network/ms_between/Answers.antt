use Rattle.plan_base.proofs.Common.{rules, of_calls, always_returns_same}
use Rattle.mode_network.proofs.FindLemmas.{ends_cmp, leads_at, none_leads}
use Rattle.mode_network.proofs.network.ms_between.Goals as goal

pub returns-in-Ok : goal.returns-in-Ok
returns-in-Ok c =
    leads_at c.args.arcs.now c.args.u c.args.v c.in-Ok.place _ c.in-Ok.ensures.bound
    (c.in-Ok.ensures.position (ends_cmp c.args.u c.args.v) (always_returns_same _ _ _ (λ a r f k. search (rules, of_calls))))

pub returns-in-Err : goal.returns-in-Err
returns-in-Err c =
    none_leads c.args.arcs.now c.requires c.args.u c.args.v c.in-Err.field-0
    (c.in-Err.ensures.position (ends_cmp c.args.u c.args.v) (always_returns_same _ _ _ (λ a r f k. search (rules, of_calls))))
