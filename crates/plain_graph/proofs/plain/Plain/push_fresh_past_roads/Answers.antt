use Rattle.plan_base.proofs.Common.{◌+◌, List, sym, subst}
use Rattle.search_laws.specs.{Way, AddsFresh, ways_from}
use Rattle.search_laws.proofs.{FreshLemmas.adds_all, FreshLemmas.adds_more, WayLemmas.ways_split}
use Rattle.plain_graph.specs.{plain_rides, plain_meaning, count_from, inner_arcs_at}
use Rattle.plain_graph.proofs.plain.Plain.push_fresh_past_roads.Goals as goal

pub returns : goal.returns
returns c =
    let n = c.args.self.now.network.now in
    let t = c.args.self.now.timetable.now in
    let visit = c.args.visit in
    let v = visit.node in
    let given = c.args.given.now in
    let before = c.args.ways.now.items in
    let between = c.push_links.new.ways.items in
    let after = c.push_fresh_inner.new.ways.items in
    let links = rw (c.arcs_from-first_arc.ensures.range) at c.in_ok-push_links.ensures in
    let inner = rw (c.arcs_from-first_arc.ensures.range, c.links_from-first_link.ensures.range) at c.in_ok-push_fresh_inner.ensures in
    let first = ways_from (plain_meaning n t) v visit.at visit.letters (count_from n.arcs v) (count_from n.links v) in
    let second = ways_from (plain_meaning n t) v visit.at visit.letters (count_from n.arcs v + count_from n.links v) (inner_arcs_at n t v) in
    subst (λ (ws : List Way). AddsFresh (plain_rides n t) visit.state given c.push_fresh_inner.new.given ws before after)
    (sym (ways_split (plain_meaning n t) v visit.at visit.letters (count_from n.arcs v) (count_from n.links v) (inner_arcs_at n t v)))
    (adds_more (plain_rides n t) visit.state given given c.push_fresh_inner.new.given first second before between after (adds_all (plain_rides n t) visit.state given first before between links) inner)
