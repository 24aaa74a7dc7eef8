-- Why a network was not built of parts; the clauses of private calls name it.
use Rattle.std.specs.Prelude.{◌≡◌, Some}
use Rattle.plan_base.specs.{Caps}
use Rattle.mode_network.specs.{NetFault, NetworkLists.NetworkLists, first_fault}

-- parts break a rule of networks
pub record AreRefused (caps : Caps) (parts : NetworkLists) : Type 0 where
  pub fault : NetFault
  pub first : first_fault caps parts ≡ Some fault
