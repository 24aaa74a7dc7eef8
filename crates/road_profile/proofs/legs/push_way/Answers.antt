use Rattle.plan_base.proofs.Common.{refl, sym, ◌∙◌, append-nil, get, int_eq}
use Rattle.road_profile.proofs.ClosedLaws.{way_legs-closed}
use Rattle.road_profile.proofs.legs.push_way.Goals as goal

pub returns-then-is_closed : goal.returns-then-is_closed
returns-then-is_closed c =
    let is = sym (rw c.as_slice.ensures at c.passages_of-passages.ensures.value) ∙ c.is_closed.ensures c.if-is_closed.true in
    rw (way_legs-closed (get int_eq c.args.places.now.by_id) c.args.way.now is, append-nil) refl
