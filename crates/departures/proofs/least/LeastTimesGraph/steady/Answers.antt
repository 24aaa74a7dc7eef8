use Rattle.plan_base.proofs.Common.{◌∙◌, ap, sym, arith}
use Rattle.plain_graph.specs.{arrival}
use Rattle.plain_graph.proofs.PlaceTies.{road_at}
use Rattle.departures.specs.{least_arrival}
use Rattle.departures.proofs.least.LeastTimesGraph.steady.Goals as goal

pub returns-clause-legs : goal.returns-clause-legs
returns-clause-legs c i d lt =
    let s = c.args.self.now in
    let t = s.plain.timetable.now in
    let leg = c.steady.ensures.legs i d lt in
    let road = road_at s.plain.network.now t c.args.v i (omega (arith, lt, c.steady.ensures.count)) in
    record {
      to = leg.to;
      time = λ time. ap (least_arrival s.runs.items time) road ∙ sym (ap (arrival t time) road) ∙ leg.time time;
    }
