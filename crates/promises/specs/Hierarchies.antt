-- The verdict on a hierarchy is one.
use Rattle.std.specs.Prelude.{◌≡◌}
use Rattle.mode_network.specs.NetworkLists.{NetworkLists}
use Rattle.hierarchy.specs.{Verdict, HierarchyLists, IsSoundnessVerdict}

-- Two verdicts that may be given of one region and one hierarchy are the same: it is sound, or one clause is
-- the first that fails, at one place.
abbrev pub CheckVerdictIsUnique : Type 0
CheckVerdictIsUnique = (n : NetworkLists) (h : HierarchyLists) (one other : Verdict)
    → IsSoundnessVerdict n h one → IsSoundnessVerdict n h other → one ≡ other
