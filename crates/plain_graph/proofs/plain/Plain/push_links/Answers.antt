use Rattle.plain_graph.proofs.PlaceTies.{link_pushed}
use Rattle.plain_graph.proofs.plain.Plain.push_links.Goals as goal

pub loop-i-preserved : goal.loop-i-preserved
loop-i-preserved c =
    let n = c.args.self.now.network.now in
    let range = c.links_from-first.ensures.range in
    let test = c.loop-i-test.true in
    let now = c.loop-i.invariant in
    let place = c.requires.place in
    rw place
    (link_pushed n c.args.self.now.timetable.now c.args.visit.at c.args.visit.letters c.args.visit.node c.loop-i.i c.args.ways.now.items c.loop-i.ways.items c.push.new.self.items
    (rw range at test) (rw place at now)
    (rw (c.with_letter.ensures, place, c.from.ensures, c.from-in-loop-i.ensures, c.links.ensures, range) at c.in_ok-push.ensures.items))
