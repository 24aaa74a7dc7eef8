-- Rounds over what descents go over.
use Rattle.std.specs.Prelude.{◌≡◌}
use Rattle.mode_network.specs.NetworkLists.{NetworkLists}
use Rattle.hierarchy.specs.{HierarchyLists}
use Rattle.rounds.specs.{declared.rounds.Rounds.Rounds, AreRounds}

-- rounds over this network and this hierarchy
pub record AreRoundsOver (n : NetworkLists) (h : HierarchyLists) (r : Rounds) : Type 0 where
  pub are : AreRounds r
  pub network : r.network.now ≡ n
  pub hierarchy : r.hierarchy.now ≡ h
