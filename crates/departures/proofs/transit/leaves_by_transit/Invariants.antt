use Rattle.plan_base.proofs.Common.{◌≡◌, ℕ, ◌<◌, bit_and}
use Rattle.search_laws.specs.{transit_letters}
use Rattle.departures.proofs.transit.leaves_by_transit.Given as goal

abbrev pub invariant-loop-i : goal.invariant-loop-i
invariant-loop-i g l = (i : ℕ) → i < l.i → bit_and ((g.L.Labels.automaton l.labels).move_at l.q i).letters transit_letters ≡ 0
