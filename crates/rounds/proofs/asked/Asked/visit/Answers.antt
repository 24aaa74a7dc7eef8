use Rattle.plan_base.proofs.Common.{◌+◌, false, [], refl, arith, All-nil}
use Rattle.rounds.specs.inside.{asked_of, WayIsCrossed}
use Rattle.rounds.proofs.ArcLemmas.{steady_within}
use Rattle.rounds.proofs.CrossingLemmas.{no_runs, none_held}
use Rattle.rounds.proofs.RowLemmas.{lowered_same}
use Rattle.rounds.proofs.VisitLemmas.{IsAny, crossing_reached, crossing_crossed, none_taken, if_both, read_alone, read_ways, read_letters, read_reaches, read_visited}
use Rattle.rounds.proofs.asked.Asked.visit.Goals as goal

pub take_ways-requires-clause-letters : goal.take_ways-requires-clause-letters
take_ways-requires-clause-letters g c =
    let a = asked_of {l = g.L.Labels} c.args.self.now in
    let v = c.in-Some.node in
    let t = a.dep + c.from.result in
    let are = read_alone a v t c.args.state c.roads_of.result c.leaving.result c.new-given.result c.fresh_ways.new.given _ _ c.deref.result.now c.in_ok-fresh_ways.ensures c.clear.ensures.items c.deref.ensures.value in
    read_letters a v t c.args.state c.roads_of.result c.leaving.result c.new-given.result c.fresh_ways.new.given c.deref.result.now are
    (read_ways a v t c.args.state c.roads_of.result c.leaving.result c.new-given.result c.fresh_ways.new.given c.deref.result.now are
    c.in-Some.ensures.node (steady_within a.rounds.graph a.rounds.hierarchy.now c.requires.is.hierarchy_is v))

pub take_ways-requires-clause-reached : goal.take_ways-requires-clause-reached
take_ways-requires-clause-reached g c =
    let a = asked_of {l = g.L.Labels} c.args.self.now in
    let v = c.in-Some.node in
    let t = a.dep + c.from.result in
    let rows = c.args.rows.now.items in
    let are = read_alone a v t c.args.state c.roads_of.result c.leaving.result c.new-given.result c.fresh_ways.new.given _ _ c.deref.result.now c.in_ok-fresh_ways.ensures c.clear.ensures.items c.deref.ensures.value in
    read_reaches a v t c.args.state c.roads_of.result c.leaving.result c.new-given.result c.fresh_ways.new.given c.deref.result.now are
    (read_ways a v t c.args.state c.roads_of.result c.leaving.result c.new-given.result c.fresh_ways.new.given c.deref.result.now are
    c.in-Some.ensures.node (steady_within a.rounds.graph a.rounds.hierarchy.now c.requires.is.hierarchy_is v))
    (crossing_reached a rows rows (lowered_same IsAny rows) c.args.crossing c.args.state c.from.result v c.in-Some.ensures.is c.requires.crossing
    (omega (arith, c.requires.here, c.requires.delay)) (omega (arith, c.requires.here, c.from.ensures)) c.requires.state c.requires.crossings)

pub returns-clause-visited : goal.returns-clause-visited
returns-clause-visited g c =
    let a = asked_of {l = g.L.Labels} c.args.self.now in
    let v = c.in-Some.node in
    let t = a.dep + c.from.result in
    let old = c.args.rows.now.items in
    let new = c.take_ways.new.rows.items in
    let are = read_alone a v t c.args.state c.roads_of.result c.leaving.result c.new-given.result c.fresh_ways.new.given _ _ c.deref.result.now c.in_ok-fresh_ways.ensures c.clear.ensures.items c.deref.ensures.value in
    if_both c.take_ways.result c.take_ways.ensures.taken c.take_ways.ensures.crossed (λ changed taken crossed.
    read_visited a v t c.args.state c.roads_of.result c.leaving.result c.new-given.result c.fresh_ways.new.given c.deref.result.now are new
    c.new-given.ensures crossed c.args.crossing c.in-Some.ensures.is
    (crossing_crossed a old new taken.lowered c.args.crossing c.args.state c.from.result v c.in-Some.ensures.is c.requires.crossing
    (omega (arith, c.requires.here, c.requires.delay)) (omega (arith, c.requires.here, c.from.ensures)))
    c.roads_of.ensures c.leaving.ensures c.args.delay (omega (arith, c.from.ensures)))

pub returns-then-not-may_have_fresh : goal.returns-then-not-may_have_fresh
returns-then-not-may_have_fresh g c =
    let a = asked_of {l = g.L.Labels} c.args.self.now in
    let v = c.in-Some.node in
    let t = a.dep + c.args.delay in
    let rows = c.args.rows.now.items in
    let same = none_taken a rows false c.requires.crossings in
    let given = no_runs in
    let are = read_alone a v t c.args.state c.roads_of.result c.leaving.result given given [] [] [] (c.may_have_fresh.ensures c.if-not-may_have_fresh.true t c.args.state given) refl refl in
    record {
      taken = same;
      visited = read_visited a v t c.args.state c.roads_of.result c.leaving.result given given [] are rows none_held (All-nil (WayIsCrossed a rows c.args.state)) c.args.crossing c.in-Some.ensures.is
          (crossing_crossed a rows rows same.lowered c.args.crossing c.args.state c.args.delay v c.in-Some.ensures.is c.requires.crossing (omega (arith, c.requires.here, c.requires.delay)) c.requires.here)
          c.roads_of.ensures c.leaving.ensures c.args.delay refl;
    }
