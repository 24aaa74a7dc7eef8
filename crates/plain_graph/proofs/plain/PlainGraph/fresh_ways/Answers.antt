use Rattle.plan_base.proofs.Common.{◌≡◌, ◌+◌, ◌-◌, ap, ◌∙◌, arith, on_ok_weaker}
use Rattle.search_laws.specs.{moving_letters, ways_from}
use Rattle.search_laws.proofs.FreshLemmas.{moving_asked}
use Rattle.mode_network.specs.{letter_at}
use Rattle.plain_graph.specs.{plain_meaning, count_from, inner_arcs_at, arcs_at}
use Rattle.plain_graph.proofs.PlaceTies.{past_roads_stand}
use Rattle.plain_graph.proofs.plain.PlainGraph.fresh_ways.Goals as goal

pub returns : goal.returns
returns c =
    let n = c.args.self.now.network.now in
    let t = c.args.self.now.timetable.now in
    let visit = c.args.visit in
    let v = visit.node in
    let g = plain_meaning n t in
    let roads = count_from n.arcs v in
    let m = count_from n.links v + inner_arcs_at n t v in
    let rest : arcs_at n t v - roads ≡ m = omega arith in
    let asked : c.moving_letters-letters.result ≡ moving_letters visit.letters visit.leaving (letter_at n.roads v) =
    c.moving_letters-letters.ensures ∙ ap (moving_letters visit.letters visit.leaving) c.letter-letter.ensures in
    rw rest (on_ok_weaker c.push_fresh_past_roads.result
    (λ adds. (
      ways_from g v visit.at (c.moving_letters-letters.result) roads m,
      rw asked (moving_asked g v visit.at visit.letters visit.leaving roads (letter_at n.roads v) (past_roads_stand n t v visit.at visit.leaving) roads m (omega arith)),
      adds,
    ))
    c.push_fresh_past_roads.ensures)
