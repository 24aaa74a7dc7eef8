-- The road arcs of a map.
use Rattle.std.specs.Prelude.{◌≡◌, ◌≤◌, ◌↔◌, List, All, AllPairs, Contains, true, is_some}
use Rattle.std.specs.Ordering.{int_cmp, nat_cmp, ordering_then}
use Rattle.std.specs.declared.cmp.Ordering.{Ordering}
use Rattle.std.specs.declared.cmp.Ordering.TheVariants.{Less}
use Rattle.plan_base.specs.{number_of_mode}
use Rattle.opl_reader.specs.{OsmNode, ObjectLists.ObjectLists}
pub use Rattle.road_profile.specs.declared.rows.RoadRow.{RoadRow}
use Rattle.road_profile.specs.Legs.{legs_of, place_of_node}

-- two rows have the same ends and the same mode
pub record AreParallel (a b : RoadRow) : Type 0 where
  pub from : a.from ≡ b.from
  pub to : a.to ≡ b.to
  pub mode : a.mode ≡ b.mode

-- a row takes some time
abbrev pub IsTimed : RoadRow → Type 0
IsTimed row = 1 ≤ row.ms

-- the ends of a row are two nodes, and these nodes have places
pub record JoinsPlaces (nodes : List OsmNode) (row : RoadRow) : Type 0 where
  pub differ : row.from ≡ row.to → ⊥
  pub from : is_some (place_of_node nodes row.from) ≡ true
  pub to : is_some (place_of_node nodes row.to) ≡ true

-- A leg is an arc where no leg that is parallel to it takes less time.
pub record IsArcOf (legs : List RoadRow) (row : RoadRow) : Type 0 where
  pub leg : Contains legs row
  pub least : All (λ leg. AreParallel leg row → row.ms ≤ leg.ms) legs

-- the order of arcs: by their ends, then by their mode
abbrev pub row_cmp : RoadRow → RoadRow → Ordering
row_cmp a b = ordering_then (int_cmp a.from b.from) (ordering_then (int_cmp a.to b.to) (nat_cmp (number_of_mode a.mode) (number_of_mode b.mode)))

-- the arcs of some legs, ascending
pub record AreArcsOf (legs rows : List RoadRow) : Type 0 where
  pub ascending : AllPairs (λ a b. row_cmp a b ≡ Less) rows
  pub arcs : (row : RoadRow) → Contains rows row ↔ IsArcOf legs row

-- the road arcs of a map, ascending
abbrev pub AreRoadArcs : ObjectLists → List RoadRow → Type 0
AreRoadArcs objects rows = AreArcsOf (legs_of objects) rows
