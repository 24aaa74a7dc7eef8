use Rattle.plan_base.proofs.Common.{◌≡◌, ◌∙◌, ◌<◌, ℕ, List, Option, length, map, length-map, ap, sym, subst, subst₂, arith, All}
use Rattle.search_laws.specs.{IsLetter}
use Rattle.sweeps.specs.{time_at}
use Rattle.rounds.specs.{Line}
use Rattle.rounds.specs.inside.{asked_of, IsRiddenAlong, time_after}
use Rattle.rounds.proofs.VisitLemmas.{if_both}
use Rattle.rounds.proofs.RideLemmas.{letter_fits, line_found, of_line, passed, arrival_reaches}
use Rattle.rounds.proofs.asked.Asked.ride_along.Goals as goal

pub reached_along-requires-clause-line : goal.reached_along-requires-clause-line
reached_along-requires-clause-line g c =
    let a = asked_of {l = g.L.Labels} c.args.self.now in
    let (found, is) = line_found a c.requires.is c.args.pattern c.index.result.now c.requires.pattern c.index.ensures in
    subst₂ (λ (count : ℕ) (xs : List ℕ). All (λ j. j < count) xs) (sym c.requires.each) (sym c.deref.ensures.value) is.within

pub arrivals_along-requires-clause-each : goal.arrivals_along-requires-clause-each
arrivals_along-requires-clause-each g c =
    let a = asked_of {l = g.L.Labels} c.args.self.now in
    let (found, is) = line_found a c.requires.is c.args.pattern c.index.result.now c.requires.pattern c.index.ensures in
    ap length (c.deref-2.ensures.value ∙ c.in_ok-reached_along.ensures) ∙ length-map c.deref.result.now _ ∙ ap length c.deref.ensures.value ∙ is.each

pub arrive_along-requires-clause-letter : goal.arrive_along-requires-clause-letter
arrive_along-requires-clause-letter g c = subst IsLetter (sym c.pattern_letter-letter.ensures) (letter_fits c.args.self.now.rounds.now.timetable.now c.requires.is.table c.args.pattern c.requires.pattern)

pub arrive_along-requires-clause-each : goal.arrive_along-requires-clause-each
arrive_along-requires-clause-each g c =
    let a = asked_of {l = g.L.Labels} c.args.self.now in
    let (found, is) = line_found a c.requires.is c.args.pattern c.index.result.now c.requires.pattern c.index.ensures in
    ap length c.deref-4.ensures.value ∙ c.in_ok-arrivals_along.ensures.each ∙ sym is.each ∙ ap length (sym c.deref-3.ensures.value)

pub arrive_along-requires-clause-line : goal.arrive_along-requires-clause-line
arrive_along-requires-clause-line g c =
    let a = asked_of {l = g.L.Labels} c.args.self.now in
    let (found, is) = line_found a c.requires.is c.args.pattern c.index.result.now c.requires.pattern c.index.ensures in
    subst (All (λ j. j < length c.args.self.now.rounds.now.crossings.items)) (sym c.deref-3.ensures.value) is.within

pub arrive_along-requires-clause-reached : goal.arrive_along-requires-clause-reached
arrive_along-requires-clause-reached g c =
    let a = asked_of {l = g.L.Labels} c.args.self.now in
    let p = c.args.pattern in
    let delays = c.args.delays.now in
    let (found, is) = line_found a c.requires.is p c.index.result.now c.requires.pattern c.index.ensures in
    let times : List ℕ → List (Option ℕ) = map (λ j. time_after a.dep (time_at delays j)) in
    rw (c.deref-4.ensures.value, c.deref-3.ensures.value, c.pattern_letter-letter.ensures)
    (arrival_reaches a c.args.rows.now.items c.args.state p c.index.result.now.crossings.items delays is.each c.deref-2.result.now c.arrivals_along.new.arrivals.items
    (c.deref-2.ensures.value ∙ c.in_ok-reached_along.ensures ∙ ap times c.deref.ensures.value) c.in_ok-arrivals_along.ensures c.requires.is c.known.ensures c.known-2.ensures is
    (λ j lt. c.requires.reached j (omega (arith, lt, c.requires.each))))

pub returns-clause-ridden : goal.returns-clause-ridden
returns-clause-ridden g c =
    let a = asked_of {l = g.L.Labels} c.args.self.now in
    let p = c.args.pattern in
    let q = c.args.state in
    let delays = c.args.delays.now in
    let new = c.arrive_along.new.rows.items in
    let xs = c.index.result.now.crossings.items in
    let (found, is) = line_found a c.requires.is p c.index.result.now c.requires.pattern c.index.ensures in
    let times : List ℕ → List (Option ℕ) = map (λ j. time_after a.dep (time_at delays j)) in
    if_both c.arrive_along.result c.arrive_along.ensures.taken c.arrive_along.ensures.crossed (λ changed taken crossed.
    of_line a (λ (line : Line). IsRiddenAlong a new q p line.crossings.items delays) p c.index.result.now found
    (passed a new q p xs delays is.each c.deref-2.result.now c.arrivals_along.new.arrivals.items
    (c.deref-2.ensures.value ∙ c.in_ok-reached_along.ensures ∙ ap times c.deref.ensures.value) c.in_ok-arrivals_along.ensures
    (rw (c.deref-4.ensures.value, c.deref-3.ensures.value, c.pattern_letter-letter.ensures) at crossed)))
