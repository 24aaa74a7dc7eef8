-- What a map's text gives.
use Rattle.std.specs.Prelude.{◌≡◌, ◌^◌, ◌<◌, ◌≤◌, List, map, length, ℤ, unsigned_abs, Bool, true}
use Rattle.std.specs.List.{AllByRecursion, IsDistinct, list_any}
use Rattle.std.specs.Ordering.{int_eq}
pub use Rattle.opl_reader.specs.{declared.objects.OsmNode.OsmNode, declared.objects.OsmWay.OsmWay}

-- the nodes that have a place, and the ways
pub record ObjectLists : Type 0 where
  pub nodes : List OsmNode
  pub ways : List OsmWay

abbrev pub ids_of : List OsmNode → List ℤ
ids_of nodes = map (λ node. node.id) nodes

-- a node of this id has a place
abbrev pub is_placed : List OsmNode → ℤ → Bool
is_placed nodes id = list_any (int_eq id) (ids_of nodes)

-- an id has at most 18 digits
abbrev pub IsOsmId : ℤ → Type 0
IsOsmId id = unsigned_abs id < 10 ^ 18

-- two or more nodes in a row, each of which has a place
pub record IsPiece (nodes : List OsmNode) (piece : List ℤ) : Type 0 where
  pub some : 2 ≤ length piece
  pub placed : AllByRecursion (λ id. is_placed nodes id ≡ true) piece

-- what every map's objects keep
pub record AreObjects (objects : ObjectLists) : Type 0 where
  -- no two nodes have one id
  pub distinct : IsDistinct int_eq (ids_of objects.nodes)
  pub pieces : AllByRecursion (λ way. AllByRecursion (IsPiece objects.nodes) way.pieces) objects.ways
  pub node_ids : AllByRecursion (λ node. IsOsmId node.id) objects.nodes
  pub way_ids : AllByRecursion (λ way. IsOsmId way.id) objects.ways
