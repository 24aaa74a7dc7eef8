use Rattle.plan_base.proofs.Common.{◌≡◌, ℤ, IfOk, List, ap, ◌∙◌, subst, sym, get, int_eq}
use Rattle.opl_reader.specs.ObjectLists.{ObjectLists}
use Rattle.road_profile.specs.{RoadRow, AreArcsOf, legs_of, place_of_node}
use Rattle.road_profile.proofs.{PlaceLaws.legs_by_places, TimedLaws.answer_timed, EndLaws.answer_joined}
use Rattle.road_profile.proofs.road_arcs.Goals as goal

pub returns-clause-arcs : goal.returns-clause-arcs
returns-clause-arcs c =
    let objects : ObjectLists = record { nodes = c.objects.inside.nodes.items; ways = c.objects.inside.ways.items } in
    let placed = subst (λ (objects : ObjectLists). (id : ℤ) → get int_eq c.args.places.now.by_id id ≡ place_of_node objects.nodes id) (sym c.objects.view_is) c.requires in
    let legs = legs_by_places (get int_eq c.args.places.now.by_id) objects c.in_ok-legs.legs.items (rw c.deref.ensures.value at c.in_ok-legs.ensures) placed in
    subst (λ (legs : List RoadRow). IfOk c.arcs_of.result (λ rows. AreArcsOf legs rows.items)) (legs ∙ ap legs_of c.objects.view_is) c.arcs_of.ensures

pub returns-clause-timed : goal.returns-clause-timed
returns-clause-timed c = answer_timed c.args.objects.now c.arcs_of.result (returns-clause-arcs c)

pub returns-clause-ends : goal.returns-clause-ends
returns-clause-ends c = answer_joined c.args.objects.now c.arcs_of.result (returns-clause-arcs c)
