use Rattle.plan_base.proofs.Common.{◌<◌, ℕ, List, Vec, Global, All-weaker, All-contains, length, arith}
use Rattle.product_search.specs.{Label}
use Rattle.phase_graph.specs.{meaning_in_use}
use Rattle.rounds.specs.inside.{asked_of, row_of, Reaches, IsNotedIn, IsNotedAt}
use Rattle.rounds.proofs.{MoveLemmas.reached_state, BeginLemmas.crossings_begin}
use Rattle.rounds.proofs.asked.Asked.begin.Goals as goal

pub note_crossings-requires-clause-states : goal.note_crossings-requires-clause-states
note_crossings-requires-clause-states g c =
    let a = asked_of c.args.self.now in
    let rows = c.in_ok-crossings.crossings.items in
    All-weaker (λ (x : Label). Reaches a x.node x.state x.at) (λ (x : Label). x.state < length rows)
    (λ x reached. (let state = reached_state (meaning_in_use a.rounds.graph) a.labels (g.met.L.Labels.lawful c.args.self.now.machine.now.labels) a.starts a.dep x.node x.state x.at reached in
    omega (arith, state, c.in_ok-crossings.ensures.shape.count_is))) c.args.firsts.now c.requires.firsts.reached

pub returns-clause-walks : goal.returns-clause-walks
returns-clause-walks g c =
    let many = rw c.in-Some.is at c.in_ok-walks.ensures.many in
    let walks = rw c.in-Some.is at c.in_ok-walks.ensures.walks in
    (many, λ k turn layer is is_layer. (walks k turn is).reached layer is_layer)

pub returns-clause-closed : goal.returns-clause-closed
returns-clause-closed g c =
    let walks = rw c.in-Some.is at c.in_ok-walks.ensures.walks in
    λ k turn layer is is_layer. (walks k turn is).closed layer is_layer

pub returns-clause-crossings : goal.returns-clause-crossings
returns-clause-crossings g c =
    let a = asked_of c.args.self.now in
    let done = c.note_crossings.ensures in
    crossings_begin a c.args.firsts.now c.requires.firsts c.in_ok-crossings.crossings.items c.note_crossings.new.crossings.items c.in_ok-crossings.ensures.shape c.in_ok-crossings.ensures.none (done.lowered c.if-not-note_crossings.false)

pub returns-clause-crossed : goal.returns-clause-crossed
returns-clause-crossed g c =
    let a = asked_of c.args.self.now in
    let firsts : List Label = c.args.firsts.now in
    let noted = c.note_crossings.ensures.noted c.if-not-note_crossings.false in
    λ x j has lt node. All-contains (IsNotedIn a.dep a.rounds.crossings.items c.note_crossings.new.crossings.items) firsts x noted has j lt node

pub returns-clause-walked : goal.returns-clause-walked
returns-clause-walked g c =
    let a = asked_of c.args.self.now in
    let firsts : List Label = c.args.firsts.now in
    let walks : List (Vec ℕ Global) = c.in-Some.walks.items in
    let noted = rw c.in-Some.is at c.in_ok-walks.ensures.noted in
    λ x k i turn layer has is is_layer source lt node. All-contains (IsNotedAt a.dep layer.sheet.slope.nodes.items turn (row_of walks k)) firsts x (noted k turn layer is is_layer) has i source lt node

pub returns-clause-few : goal.returns-clause-few
returns-clause-few g c = λ q j state within. (let lowered = c.note_crossings.ensures.lowered c.if-not-note_crossings.false in omega (arith, lowered.no_later q j, c.in_ok-crossings.ensures.none q j state within))
