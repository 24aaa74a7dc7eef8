-- What the fields of a hierarchy keep.
use Rattle.hierarchy.specs.{declared.hierarchy.Hierarchy.TheInside.Inside, Rules.IsHierarchy, inside.Tables.AreTablesOf}

pub record IsKept (h : Inside) : Type 0 where
  pub rules : IsHierarchy h.lists
  pub tables : AreTablesOf h.lists.order h.lists.entries h.tables
