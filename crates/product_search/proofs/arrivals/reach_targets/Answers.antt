use Rattle.plan_base.proofs.Common.{◌∙◌, length, ap, sym, subst, inl, inr, arith, length-replicate}
use Rattle.product_search.specs.inside.{AreNoted, IsEndNotedBy}
use Rattle.product_search.proofs.{GivenLemmas.none_given, StepLemmas.searching_begins, StepLemmas.takes_scanning, StepLemmas.scanning_range, StepLemmas.scanning_here, StepLemmas.scanning_on, StepLemmas.searching_over, NotingLemmas.noted_begins, NotingLemmas.IsBounded, NotingLemmas.turn_now, NotingLemmas.all_noted, arrivals.reach_targets.Goals.then-note_end, arrivals.reach_targets.Goals.else-note_end}
use Rattle.product_search.proofs.arrivals.reach_targets.Goals as goal

pub search-init : goal.search-init
search-init g c =
    let graph = g.G.Graph.meaning c.args.graph.now in
    let labels = g.L.Labels.automaton c.args.machine.now.labels in
    let places = c.args.targets.now.places.items in
    let f = c.offer_starts.new.frontier in
    let offers = c.in_ok-offer_starts.ensures.offers in
    record {
      searching = searching_begins graph labels c.args.starts.now c.args.dep (IsEndNotedBy labels places c.in_ok-noted.noted.times.items)
          c.new-frontier.result f c.requires.starts c.new-frontier.ensures.base c.new-frontier.ensures.no_rows c.new-frontier.ensures.no_ways
          offers c.in_ok-offer_starts.ensures.right c.in_ok-offer_starts.ensures.reached;
      given = none_given labels (g.G.Graph.rides c.args.graph.now) f c.new-given.result c.new-given.ensures;
      one_each = ap length c.in_ok-noted.ensures.times ∙ length-replicate _ _;
      passed = λ k lt. absurd (omega (arith, lt, c.in_ok-noted.ensures.passed));
      noted = noted_begins graph labels c.args.starts.now c.args.dep places f.until (length c.args.targets.now.nodes.items) c.in_ok-noted.noted
          (offers.until ∙ c.new-frontier.ensures.until) c.in_ok-noted.ensures.times;
    }

pub note_end-requires-clause-state : goal.note_end-requires-clause-state
note_end-requires-clause-state g c =
    let graph = g.G.Graph.meaning c.args.graph.now in
    let labels = g.L.Labels.automaton c.args.machine.now.labels in
    let P = IsEndNotedBy labels c.args.targets.now.places.items c.search.noted.times.items in
    let takes = (rw c.in-Some.is at c.in_ok-scan.ensures.some) in
    let scanning = takes_scanning graph labels c.args.starts.now c.args.dep P c.search.frontier c.take.new.self c.in-Some.scan c.search.invariant.searching takes in
    (scanning_range graph labels c.args.starts.now c.args.dep P c.take.new.self c.in-Some.scan scanning).1

pub explore-requires : goal.explore-requires
explore-requires g c =
    let graph = g.G.Graph.meaning c.args.graph.now in
    let labels = g.L.Labels.automaton c.args.machine.now.labels in
    let targets = c.args.targets.now in
    let new = c.note_end.new.self in
    let f1 = c.take.new.self in
    let f2 = c.if-note_end.frontier in
    let s = c.in-Some.scan in
    let was = c.search.invariant in
    let bounded : IsBounded targets.nodes.items new f1 f2 = elim c.if-note_end.branch [
      | then-note_end w ↦ inr (w.frontier-is ∙ ap (λ u. record f1 { until = u }) w.min.ensures, c.note_end.ensures.all w.if-note_end.true)
      | else-note_end w ↦ inl w.frontier-is
    ] in
    let turn = turn_now graph labels c.args.starts.now c.args.dep targets.nodes.items targets.places.items targets.placed c.search.frontier f1 f2 c.search.noted new s
    was.searching (rw c.in-Some.is at c.in_ok-scan.ensures.some) was.noted c.note_end.ensures.noted bounded
    (g.G.Graph.rides c.args.graph.now) c.search.given was.given c.note_end.ensures.passed in
    let P = IsEndNotedBy labels targets.places.items new.times.items in
    let range = scanning_range graph labels c.args.starts.now c.args.dep P f2 s turn.0 in
    record {
      node = range.0;
      state = range.1;
      right = turn.0.right;
      here = scanning_here graph labels c.args.starts.now c.args.dep P f2 s turn.0;
      given = turn.3;
    }

pub search-preserved : goal.search-preserved
search-preserved g c =
    let graph = g.G.Graph.meaning c.args.graph.now in
    let labels = g.L.Labels.automaton c.args.machine.now.labels in
    let targets = c.args.targets.now in
    let new = c.note_end.new.self in
    let f1 = c.take.new.self in
    let f2 = c.if-note_end.frontier in
    let s = c.in-Some.scan in
    let was = c.search.invariant in
    let bounded : IsBounded targets.nodes.items new f1 f2 = elim c.if-note_end.branch [
      | then-note_end w ↦ inr (w.frontier-is ∙ ap (λ u. record f1 { until = u }) w.min.ensures, c.note_end.ensures.all w.if-note_end.true)
      | else-note_end w ↦ inl w.frontier-is
    ] in
    let turn = turn_now graph labels c.args.starts.now c.args.dep targets.nodes.items targets.places.items targets.placed c.search.frontier f1 f2 c.search.noted new s
    was.searching (rw c.in-Some.is at c.in_ok-scan.ensures.some) was.noted c.note_end.ensures.noted bounded
    (g.G.Graph.rides c.args.graph.now) c.search.given was.given c.note_end.ensures.passed in
    let P = IsEndNotedBy labels targets.places.items new.times.items in
    let explored = c.in_ok-explore.ensures in
    record {
      searching = scanning_on graph (g.met.G.Graph.lawful c.args.graph.now) labels (g.met.L.Labels.lawful c.args.machine.now.labels) c.args.starts.now c.args.dep P
          f2 c.explore.new.frontier s turn.0 explored.offers explored.right explored.reached turn.1;
      given = explored.given;
      one_each = c.note_end.ensures.one_each;
      passed = c.note_end.ensures.passed;
      noted = subst (λ u. AreNoted graph labels c.args.starts.now c.args.dep targets.places.items u new) (sym explored.offers.until) turn.2;
    }

pub returns-clause-times : goal.returns-clause-times
returns-clause-times g c =
    let graph = g.G.Graph.meaning c.args.graph.now in
    let labels = g.L.Labels.automaton c.args.machine.now.labels in
    let places = c.args.targets.now.places.items in
    let over = (rw c.in_default.is at c.in_ok-scan.ensures.none) in
    all_noted graph labels c.args.starts.now c.args.dep places c.take.new.self c.search.noted
    (searching_over graph (g.met.G.Graph.lawful c.args.graph.now) labels c.args.starts.now c.args.dep (IsEndNotedBy labels places c.search.noted.times.items)
    c.search.frontier c.take.new.self c.search.invariant.searching over)
    (subst (λ u. AreNoted graph labels c.args.starts.now c.args.dep places u c.search.noted) (sym (over.same).until) c.search.invariant.noted)
