use Rattle.plan_base.proofs.Common.{rules, of_calls, always_returns_same}
use Rattle.mode_network.specs.{name_cmp}
use Rattle.mode_network.proofs.FindLemmas.{name_found, name_missing}
use Rattle.mode_network.proofs.network.place_of_name.Goals as goal

pub returns-in-Ok : goal.returns-in-Ok
returns-in-Ok c =
    name_found c.args.names.now c.requires c.args.name.now c.in-Ok.place c.in-Ok.ensures.bound
    (c.in-Ok.ensures.position (λ held. name_cmp held c.args.name.now) (always_returns_same _ _ _ (λ a r f k. search (rules, of_calls))))

pub returns-in-Err : goal.returns-in-Err
returns-in-Err c =
    name_missing c.args.names.now c.requires c.args.name.now c.in-Err.field-0
    (c.in-Err.ensures.position (λ held. name_cmp held c.args.name.now) (always_returns_same _ _ _ (λ a r f k. search (rules, of_calls))))
