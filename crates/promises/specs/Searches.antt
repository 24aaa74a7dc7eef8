-- The labels of searches are one list.
use Rattle.std.specs.Prelude.{◌≡◌, List, Option}
use Rattle.product_search.specs.{Label}
use Rattle.hierarchy.specs.{HierarchyLists}
use Rattle.mode_network.specs.NetworkLists.{NetworkLists}
use Rattle.journey.specs.{Asked}
use Rattle.planning.specs.{AreTheLabels}

-- for a network, a hierarchy or none, and what is asked there is one list of labels
abbrev pub LabelsAreUnique : Type 0
LabelsAreUnique = (n : NetworkLists) (h : Option HierarchyLists) (q : Asked) (one other : List Label)
    → AreTheLabels n h q one → AreTheLabels n h q other → one ≡ other
