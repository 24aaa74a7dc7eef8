-- The points of the road nodes, as they are kept.
use Rattle.std.specs.Prelude.{Bool, List, All, Contains, ◌&&◌}
use Rattle.std.specs.List.{list_any}
use Rattle.std.specs.Ordering.{int_eq}
use Rattle.std.proofs.Props.{props}
use Rattle.geo_length.specs.{Point}
use Rattle.mode_network.specs.{declared.nodes.Node.Node, Rules.IsAscending, Rules.IsRoad, Rules.IsRoad-prop, Rules.node_cmp}

-- each point of the one list is in the other
pub record HoldSame (xs ys : List Point) : Type 0 where
  pub given : All (Contains ys) xs
  pub all : All (Contains xs) ys

-- whether two points are the same, and whether a list has a point
abbrev pub is_same_point : Point → Point → Bool
is_same_point p q = int_eq p.0 q.0 && (int_eq p.1.lat q.1.lat && int_eq p.1.lon q.1.lon)

abbrev pub has_point : List Point → Point → Bool
has_point points p = list_any (is_same_point p) points

-- road nodes in the order of a network
pub record AreRoads (roads : List Node) : Type 0 where
  pub ascend : IsAscending node_cmp roads
  pub are : All (λ node. IsRoad node.key) roads

pub AreRoads-prop : (roads : List Node) → IsProp (AreRoads roads)
AreRoads-prop roads = hlevel (props, IsRoad-prop)
