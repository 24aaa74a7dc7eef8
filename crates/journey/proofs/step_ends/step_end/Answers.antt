use Rattle.plan_base.proofs.Common.{subst}
use Rattle.mode_network.specs.{Step, IsStep}
use Rattle.journey.proofs.step_ends.step_end.Goals as goal

pub returns-in-None : goal.returns-in-None
returns-in-None c w u letter step =
    let road = subst (λ (s : Step). IsStep c.args.network.now c.args.v c.args.t s w u letter) c.in-Road.is step in
    c.in-None.ensures road.0 road.1

pub returns-in-None-link_ms : goal.returns-in-None-link_ms
returns-in-None-link_ms c w u letter step =
    let link = subst (λ (s : Step). IsStep c.args.network.now c.args.v c.args.t s w u letter) c.in-Link.is step in
    c.in-None-link_ms.ensures link.0 link.1
