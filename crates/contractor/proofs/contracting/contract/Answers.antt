use Rattle.plan_base.proofs.Common.{◌∙◌, ◌-◌, ap}
use Rattle.contractor.proofs.WaitingLemmas.{is_contracted}
use Rattle.contractor.proofs.contracting.contract.Goals as goal

pub returns : goal.returns
returns g c =
    is_contracted c.args.network.now c.args.keep c.in_ok-waiting.waiting.count c.saturating_sub-number.result c.contract_nodes.new.layer.order.items c.finish.result c.in_ok-waiting.ensures.1
    (c.saturating_sub-number.ensures ∙ ap (λ k. c.in_ok-waiting.waiting.count - k) c.from.ensures) c.in_ok-contract_nodes.ensures.order c.finish.ensures
