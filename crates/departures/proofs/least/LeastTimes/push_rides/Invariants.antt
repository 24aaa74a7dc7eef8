use Rattle.departures.proofs.BoardLemmas.{IsUnderWay}
use Rattle.departures.proofs.least.LeastTimes.push_rides.Given as goal

abbrev pub invariant-loop-alight : goal.invariant-loop-alight
invariant-loop-alight l =
    IsUnderWay l.self.plain.network.now l.self.plain.timetable.now l.self.runs.items l.t l.ride l.first l.past l.alight l.place l.initial.ways.items l.ways.items
