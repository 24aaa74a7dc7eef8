use Rattle.plan_base.proofs.Common.{ℕ, Option, length, subst}
use Rattle.mode_network.specs.{AreInOrder}
use Rattle.sample_city.specs.{RoadNodeKey, city_links}
use Rattle.sample_city.proofs.city.city_ways.Goals as goal

pub returns-clause-arcs : goal.returns-clause-arcs
returns-clause-arcs c = rw c.in_ok-numbers.ensures at c.in_ok-arcs.ensures

pub returns-clause-links : goal.returns-clause-links
returns-clause-links c =
    subst (λ (number : RoadNodeKey → Option ℕ). AreInOrder (city_links c.args.n number (length c.args.roads.now) c.args.city.now) c.in_ok-links.links.items) c.in_ok-numbers.ensures c.in_ok-links.ensures
