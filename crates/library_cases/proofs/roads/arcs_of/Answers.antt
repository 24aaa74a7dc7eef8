use Rattle.plan_base.proofs.Common.{List, ap, ◌∙◌}
use Rattle.opl_reader.specs.{ObjectLists.ObjectLists, OsmNode}
use Rattle.road_profile.specs.{place_of_node}
use Rattle.library_cases.proofs.roads.arcs_of.Goals as goal

pub road_arcs-requires : goal.road_arcs-requires
road_arcs-requires c = λ id.
    c.in_ok-places.ensures id
    ∙ ap (λ (nodes : List OsmNode). place_of_node nodes id) (c.deref.ensures.value ∙ ap (λ (objects : ObjectLists). objects.nodes) c.objects.view_is)
