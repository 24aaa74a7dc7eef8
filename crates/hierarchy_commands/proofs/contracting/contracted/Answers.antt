use Rattle.plan_base.proofs.Common.{subst}
use Rattle.mode_network.specs.NetworkLists.{NetworkLists}
use Rattle.contractor.specs.{IsContractedTo}
use Rattle.contractor.proofs.TripLemmas.{contracted_with_trips}
use Rattle.hierarchy_commands.proofs.contracting.contracted.Goals as goal

pub returns : goal.returns
returns g c =
    let whole = contracted_with_trips c.args.network c.args.keep c.in_ok-lists.lists
    (subst (λ (n : NetworkLists). IsContractedTo n c.args.keep c.in_ok-lists.lists) c.in_ok-roads.ensures c.in_ok-lists.ensures) in
    record { hierarchy = c.in_ok-lists.lists; contracted = whole; spells = c.in_ok-text.ensures }
