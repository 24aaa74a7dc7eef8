use Rattle.plan_base.proofs.Common.{refl}
use Rattle.sample_city.proofs.stops.city_switches.Goals as goal

pub returns : goal.returns
returns c = rw (c.in_ok-push_node-2.ensures, c.in_ok-push_node.ensures, c.new-switches.ensures.items, c.place_at.ensures, c.place_at-2.ensures, c.corner_at-first.ensures, c.corner_at-last.ensures) refl
