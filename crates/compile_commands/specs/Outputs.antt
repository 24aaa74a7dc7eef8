-- What `compile` and `migrate` write.
use Rattle.std.specs.Prelude.{◌≡◌, ℕ, List}
use Rattle.plan_base.specs.{Caps}
use Rattle.mode_network.specs.NetworkLists.{NetworkLists}
use Rattle.region_file.specs.{IsDecoded, spelling, Format}

-- Written is the one spelling of the network in this format; it spells that network, within the limits.
pub record IsRegionFile (caps : Caps) (format : Format) (n : NetworkLists) (out : List ℕ) : Type 0 where
  pub text : out ≡ spelling format n
  pub spells : IsDecoded caps out n
