use Rattle.plan_base.proofs.Common.{List, ◌∙◌, sym, subst, rules}
use Rattle.search_laws.specs.{Way, AddsFresh, ways_from}
use Rattle.search_laws.proofs.FreshLemmas.{adds_all}
use Rattle.plain_graph.specs.{plain_rides, plain_meaning, inner_arcs_at}
use Rattle.plain_graph.proofs.PlaceTies.{rides_ways}
use Rattle.plain_graph.proofs.plain.Plain.push_fresh_inner.Goals as goal

pub returns-in_ok-push_stand-in-Some-default : goal.returns-in_ok-push_stand-in-Some-default
returns-in_ok-push_stand-in-Some-default c =
    let n = c.args.self.now.network.now in
    let t = c.args.self.now.timetable.now in
    adds_all (plain_rides n t) c.args.visit.state c.args.given.now (ways_from (plain_meaning n t) c.args.visit.node c.args.visit.at c.args.visit.letters c.args.first (inner_arcs_at n t c.args.visit.node))
    c.args.ways.now.items c.push_stand.new.ways.items c.in_ok-push_stand-in-Some-default.ensures

pub returns-in_ok-push_fresh_boards-in-None-Some : goal.returns-in_ok-push_fresh_boards-in-None-Some
returns-in_ok-push_fresh_boards-in-None-Some c =
    let n = c.args.self.now.network.now in
    let t = c.args.self.now.timetable.now in
    let is = rides_ways n t c.args.visit.at c.args.visit.letters c.args.visit.node c.in-None-Some.stop (sym c.letter.ensures ∙ c.in-None-Some.is-0) (sym c.stop_at.ensures ∙ c.in-None-Some.is-1) in
    let place = c.requires.place in
    rw place (subst (λ (ws : List Way). AddsFresh (plain_rides n t) c.args.visit.state c.args.given.now c.push_fresh_boards.new.given ws c.args.ways.now.items c.push_fresh_boards.new.ways.items) (sym is)
    (rw place at c.in_ok-push_fresh_boards-in-None-Some.ensures))

pub returns-in-None-None : goal.returns-in-None-None
returns-in-None-None c =
    let n = c.args.self.now.network.now in
    let t = c.args.self.now.timetable.now in
    adds_all (plain_rides n t) c.args.visit.state c.args.given.now (ways_from (plain_meaning n t) c.args.visit.node c.args.visit.at c.args.visit.letters c.args.first (inner_arcs_at n t c.args.visit.node))
    c.args.ways.now.items c.args.ways.now.items (search rules)
