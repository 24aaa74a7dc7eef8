use Rattle.plan_base.proofs.Common.{◌≡◌, ◌+◌, ◌++◌, length, map}
use Rattle.region_build.specs.{inside.near_of, place_links}
use Rattle.region_build.proofs.links.push_places.Given as goal

abbrev pub decreases-loop-rest : goal.decreases-loop-rest
decreases-loop-rest g l = length l.rest

abbrev pub invariant-loop-rest : goal.invariant-loop-rest
invariant-loop-rest g l = record {
  so_far : l.links.items ++ place_links (near_of l.layers.foot l.layers.bike l.layers.car) l.ends l.number (map g.P.JoinedPlace.joins l.rest)
      ≡ l.initial.links.items ++ place_links (near_of l.layers.foot l.layers.bike l.layers.car) l.ends l.first (map g.P.JoinedPlace.joins l.places);
  count : l.number + length l.rest ≡ l.first + length l.places;
}
