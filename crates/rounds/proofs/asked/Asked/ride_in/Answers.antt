use Rattle.plan_base.proofs.Common.{◌≡◌, ◌∙◌, ◌+◌, ◌<◌, ℕ, List, length, ap, sym, subst, arith}
use Rattle.sweeps.specs.{time_at}
use Rattle.rounds.specs.{Line}
use Rattle.rounds.specs.inside.{asked_of, Reaches, IsLineOf, IsRiddenAlong, crossing_node, never}
use Rattle.rounds.proofs.RowLemmas.{row_is, row-set_same, row-set_other}
use Rattle.rounds.proofs.RideLemmas.{ridden_in}
use Rattle.rounds.proofs.asked.Asked.ride_in.Goals as goal

pub ride_from-requires-clause-each : goal.ride_from-requires-clause-each
ride_from-requires-clause-each g c =
    let shape = c.requires.riding.reached.shape in
    let is = row_is c.args.rows.now.items c.args.state c.index.result.now (omega (arith, c.requires.state, shape.count_is)) c.index.ensures in
    ap length (c.deref-2.ensures.value ∙ c.in_ok-delays.ensures.items ∙ c.deref.ensures.value ∙ sym is) ∙ shape.width_is c.args.state c.requires.state

pub ride_from-requires-clause-each_before : goal.ride_from-requires-clause-each_before
ride_from-requires-clause-each_before g c =
    let shape = c.requires.riding.shape in
    let is = row_is c.args.rides.now.items c.args.state c.index-before.result.now (omega (arith, c.requires.state, shape.count_is)) c.index-before.ensures in
    ap length (c.deref-3.ensures.value ∙ sym is) ∙ shape.width_is c.args.state c.requires.state

pub ride_from-requires-clause-reached : goal.ride_from-requires-clause-reached
ride_from-requires-clause-reached g c =
    let a = asked_of {l = g.L.Labels} c.args.self.now in
    let q = c.args.state in
    let reached = c.requires.riding.reached in
    let is = row_is c.args.rows.now.items q c.index.result.now (omega (arith, c.requires.state, reached.shape.count_is)) c.index.ensures in
    subst (λ (xs : List ℕ). (j : ℕ) → j < length xs → time_at xs j < never → Reaches a (crossing_node a j) q (a.dep + time_at xs j)) (is ∙ sym (c.deref-2.ensures.value ∙ c.in_ok-delays.ensures.items ∙ c.deref.ensures.value))
    (λ j lt. reached.reached q j c.requires.state (omega (arith, lt, reached.shape.width_is q c.requires.state)))

pub ride_from-requires-clause-ridden : goal.ride_from-requires-clause-ridden
ride_from-requires-clause-ridden g c =
    let a = asked_of {l = g.L.Labels} c.args.self.now in
    let q = c.args.state in
    let riding = c.requires.riding in
    let is = row_is c.args.rides.now.items q c.index-before.result.now (omega (arith, c.requires.state, riding.shape.count_is)) c.index-before.ensures in
    subst (λ (xs : List ℕ). (p : ℕ) (line : Line) → IsLineOf a p line → IsRiddenAlong a c.args.rows.now.items q p line.crossings.items xs) (is ∙ sym c.deref-3.ensures.value)
    (λ p line there. riding.ridden q p line c.requires.state there)

pub returns-clause-riding : goal.returns-clause-riding
returns-clause-riding g c =
    let a = asked_of {l = g.L.Labels} c.args.self.now in
    let rows = c.args.rows.now.items in
    let riding = c.requires.riding in
    let shape = riding.reached.shape in
    let is = row_is rows c.args.state c.index.result.now (omega (arith, c.requires.state, shape.count_is)) c.index.ensures in
    let done = rw c.in-Some.is at c.in_ok-changed.ensures in
    ridden_in a rows c.ride_from.new.rows.items c.args.rides.now.items c.in-Some.changed c.args.state c.in_ok-delays.delays c.requires.state riding done.taken
    (ap length (c.in_ok-delays.ensures.items ∙ c.deref.ensures.value ∙ sym is) ∙ shape.width_is c.args.state c.requires.state) (rw c.deref-2.ensures.value at done.ridden)

pub returns-clause-here : goal.returns-clause-here
returns-clause-here g c =
    let riding = c.requires.riding in
    let is = row_is c.args.rows.now.items c.args.state c.index.result.now (omega (arith, c.requires.state, riding.reached.shape.count_is)) c.index.ensures in
    row-set_same c.args.rides.now.items c.args.state c.in_ok-delays.delays (omega (arith, c.requires.state, riding.shape.count_is)) ∙ c.in_ok-delays.ensures.items ∙ c.deref.ensures.value ∙ sym is

pub returns-clause-others : goal.returns-clause-others
returns-clause-others g c = λ q other. row-set_other c.args.rides.now.items c.args.state q c.in_ok-delays.delays other
