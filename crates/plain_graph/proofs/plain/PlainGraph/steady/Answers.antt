use Rattle.plan_base.proofs.Common.{◌∙◌, ap, sym, arith}
use Rattle.plain_graph.specs.{PlainArc, graph_arc}
use Rattle.plain_graph.proofs.PlaceTies.{legs_count, road_at, road_leg}
use Rattle.plain_graph.proofs.plain.PlainGraph.steady.Goals as goal

pub returns-clause-count : goal.returns-clause-count
returns-clause-count c = rw c.legs_from.ensures (legs_count c.args.self.now.network.now c.args.v)

pub returns-clause-within : goal.returns-clause-within
returns-clause-within c = rw c.legs_from.ensures (omega (arith, legs_count c.args.self.now.network.now c.args.v))

pub returns-clause-letter : goal.returns-clause-letter
returns-clause-letter c i lt =
    let n = c.args.self.now.network.now in
    let t = c.args.self.now.timetable.now in
    let v = c.args.v in
    let inside = rw (c.legs_from.ensures, legs_count n v) at lt in
    ap (λ (a : PlainArc). (graph_arc n t v a).letter) (road_at n t v i inside) ∙ sym c.letter.ensures

pub returns-clause-legs : goal.returns-clause-legs
returns-clause-legs c i d lt =
    let n = c.args.self.now.network.now in
    let t = c.args.self.now.timetable.now in
    let v = c.args.v in
    let inside = rw (c.legs_from.ensures, legs_count n v) at lt in
    rw c.legs_from.ensures (road_leg n t v i d inside)
