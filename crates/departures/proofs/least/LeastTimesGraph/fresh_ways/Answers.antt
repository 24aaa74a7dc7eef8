use Rattle.plan_base.proofs.Common.{◌≡◌, ◌-◌, ◌≤◌, ◌++◌, ◌∙◌, ap, arith}
use Rattle.search_laws.specs.{moving_letters, ways_from, ways_past, declared.graph.Graph.rides-default}
use Rattle.search_laws.proofs.FreshLemmas.{adds_all, moving_asked}
use Rattle.mode_network.specs.{NetworkLists.NetworkLists, letter_at}
use Rattle.plain_graph.specs.{count_from, arcs_at}
use Rattle.departures.specs.{declared.least.LeastTimes.LeastTimes, least_meaning}
use Rattle.departures.proofs.{StandLemmas.least_stand, WayLemmas.more_ways}
use Rattle.departures.proofs.least.LeastTimesGraph.fresh_ways.Goals as goal

pub loop-first-preserved : goal.loop-first-preserved
loop-first-preserved c =
    let s = c.args.self.now in
    let n = s.plain.network.now in
    let g = least_meaning n s.plain.timetable.now s.runs.items in
    let visit = c.args.visit in
    let inv = c.loop-first.invariant in
    let past = c.past_letter-past.result in
    let from : count_from n.arcs visit.node ≤ past = omega (arith, inv.from, c.past_letter-past.ensures.later) in
    let to : c.loop-first.first ≤ past = omega (arith, c.past_letter-past.ensures.later) in
    record {
      from = from;
      within = c.past_letter-past.ensures.within;
      ways = more_ways g visit.node visit.at c.moving_letters-letters.result (count_from n.arcs visit.node) c.loop-first.first past c.args.ways.now.items c.loop-first.ways.items c.push_alike.new.ways.items
          inv.from to inv.ways c.in_ok-push_alike.ensures;
    }

pub returns : goal.returns
returns c =
    let s = c.args.self.now in
    let n = s.plain.network.now in
    let g = least_meaning n s.plain.timetable.now s.runs.items in
    let visit = c.args.visit in
    let v = visit.node in
    let letters = c.moving_letters-letters.result in
    let first = count_from n.arcs v in
    let inv = c.loop-first.invariant in
    let all : c.loop-first.first ≡ arcs_at n s.plain.timetable.now v = omega (arith, inv.within, c.loop-first-test.false, c.arcs-arcs.ensures) in
    let asked : letters ≡ moving_letters visit.letters visit.leaving (letter_at n.roads v) =
    c.moving_letters-letters.ensures ∙ ap (moving_letters visit.letters visit.leaving) (c.letter-letter.ensures ∙ ap (λ (x : NetworkLists). letter_at x.roads v) c.network.ensures) in
    let ways = ways_past g v visit.at letters first in
    let before = c.args.ways.now.items in (
      ways,
      rw asked (moving_asked g v visit.at visit.letters visit.leaving first (letter_at n.roads v) (least_stand n s.plain.timetable.now s.runs.items v visit.at visit.leaving)
          first (arcs_at n s.plain.timetable.now v - first) (omega arith)),
      adds_all (rides-default LeastTimes s) visit.state c.args.given.now ways before c.loop-first.ways.items
          (inv.ways ∙ ap (λ k. before ++ ways_from g v visit.at letters first (k - first)) all),
    )
