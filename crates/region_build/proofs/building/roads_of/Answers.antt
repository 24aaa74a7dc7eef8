use Rattle.plan_base.proofs.Common.{ℤ, ap, arith, length, ◌∙◌, subst, List, Option}
use Rattle.plan_base.specs.{Place}
use Rattle.opl_reader.specs.{ObjectLists.ObjectLists, OsmNode}
use Rattle.road_profile.specs.{place_of_node, RoadRow}
use Rattle.region_build.specs.{AreEnds, arcs_of, road_nodes}
use Rattle.mode_network.specs.{AreInOrder}
use Rattle.region_build.proofs.building.roads_of.Goals as goal

pub road_arcs-requires : goal.road_arcs-requires
road_arcs-requires c = λ id.
    c.in_ok-places.ensures id
    ∙ ap (λ (nodes : List OsmNode). place_of_node nodes id) (c.deref.ensures.value ∙ ap (λ (objects : ObjectLists). objects.nodes) c.objects.view_is)

pub returns-clause-are : goal.returns-clause-are
returns-clause-are c = record {
  rows = c.in_ok-rows.rows.items;
  rows_are = c.in_ok-rows.ensures.arcs;
  ends_are = subst (λ (rows : List RoadRow). AreEnds rows c.in_ok-ends.ends) c.deref-2.ensures.value c.in_ok-ends.ensures;
  nodes_are = c.in_ok-nodes.ensures
      ∙ ap (λ (f : ℤ → Option Place). road_nodes f c.in_ok-ends.ends) (λ i id. c.in_ok-places.ensures id i)
      ∙ ap (λ (nodes : List OsmNode). road_nodes (place_of_node nodes) c.in_ok-ends.ends) (c.deref.ensures.value ∙ ap (λ (objects : ObjectLists). objects.nodes) c.objects.view_is);
  arcs_are = subst (λ (rows : List RoadRow). AreInOrder (arcs_of c.in_ok-ends.ends rows) c.in_ok-arcs.arcs.items) c.deref-3.ensures.value c.in_ok-arcs.ensures;
}

pub road_arcs_between-requires : goal.road_arcs_between-requires
road_arcs_between-requires c = let few = c.if-as_slice.false in let same = ap length c.as_slice.ensures in omega arith

pub returns-clause-few : goal.returns-clause-few
returns-clause-few c = let few = c.if-as_slice.false in let same = ap length c.as_slice.ensures in omega arith
