use Rattle.plan_base.proofs.Common.{sym}
use Rattle.plain_graph.proofs.PlaceTies.{stand_ways, stand_closed, nothing_more, these_more}
use Rattle.plain_graph.proofs.plain.Plain.push_stand.Goals as goal

pub returns-in_ok-push : goal.returns-in_ok-push
returns-in_ok-push c =
    let n = c.args.self.now.network.now in
    let t = c.args.self.now.timetable.now in
    let is = stand_ways n t c.args.visit.at c.args.visit.letters c.args.visit.node c.args.letter c.requires.letter (sym c.if-is_open.ensures) in
    let place = c.requires.place in
    rw place (these_more c.args.ways.now.items c.push.new.self.items _ _ is (rw place at c.in_ok-push.ensures.items))

pub returns-else-is_open : goal.returns-else-is_open
returns-else-is_open c =
    let n = c.args.self.now.network.now in
    let t = c.args.self.now.timetable.now in
    let is = stand_closed n t c.args.visit.at c.args.visit.letters c.args.visit.node c.args.letter c.requires.letter (sym c.if-is_open.ensures) in
    let place = c.requires.place in
    rw place (nothing_more c.args.ways.now.items _ is)
