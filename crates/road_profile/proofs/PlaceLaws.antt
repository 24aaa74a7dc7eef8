-- Places of nodes.
use Rattle.plan_base.proofs.Common.{◌≡◌, ℤ, List, [], ◌∷◌, ◌++◌, true, false, Option, Some, if◌then◌else◌, refl, ap, ◌∙◌, int_eq, flat_map}
use Rattle.plan_base.specs.{Place}
use Rattle.opl_reader.specs.{OsmNode, ObjectLists.ObjectLists}
use Rattle.road_profile.specs.{RoadRow, legs_of, place_of_node, place_with, way_legs}

-- one more node
pub place_at-push : (nodes : List OsmNode) (node : OsmNode) (id : ℤ) → place_of_node (nodes ++ node ∷ []) id ≡ place_with (place_of_node nodes id) node id
place_at-push [] node id = refl
place_at-push (first ∷ nodes) node id =
    elim (int_eq first.id id) as (λ b. (if b then Some first.place else place_of_node (nodes ++ node ∷ []) id) ≡ place_with (if b then Some first.place else place_of_node nodes id) node id) [
      | true ↦ refl
      | false ↦ place_at-push nodes node id
    ]

-- The legs are those by the places of the nodes, however the places are kept.
pub legs_by_places : (places : ℤ → Option Place) (objects : ObjectLists) (legs : List RoadRow) → legs ≡ flat_map (way_legs places) objects.ways → ((id : ℤ) → places id ≡ place_of_node objects.nodes id) → legs ≡ legs_of objects
unfolding legs_of
legs_by_places places objects legs e same = e ∙ ap (λ (f : ℤ → Option Place). flat_map (way_legs f) objects.ways) (λ i id. same id i)
