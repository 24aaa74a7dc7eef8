use Rattle.plan_base.proofs.Common.{arith}
use Rattle.departures.proofs.TransitLemmas.{none_set}
use Rattle.departures.proofs.transit.leaves_by_transit.Goals as goal

pub returns : goal.returns
returns g c off i k place is set =
    none_set ((g.L.Labels.automaton c.args.labels.now).move_at c.args.q i).letters k (c.loop-i.invariant i (omega (arith, place, c.loop-i-test.false, c.moves-i-end.ensures))) is set
