use Rattle.plan_base.proofs.Common.{◌≡◌, map, take, true, list_all}
use Rattle.hierarchy.specs.{is_short, leg_of, rises_at}
use Rattle.hierarchy.proofs.rises.legs.Given as goal

abbrev pub invariant-loop-place : goal.invariant-loop-place
invariant-loop-place l = record {
  short : list_all is_short (take l.place-index (rises_at l.entries l.rises)) ≡ true;
  legs : l.legs.items ≡ map leg_of (take l.place-index (rises_at l.entries l.rises));
}
