use Rattle.plan_base.proofs.Common.{◌≡◌, ◌≤◌, ◌∙◌, ℕ, true, false, length, slice_index, slice_index_or, ap, sym, subst, arith, below_more, get_or_default, false≢true}
use Rattle.search_laws.specs.{IsLetter}
use Rattle.timetable_arcs.specs.{Call, no_call, pattern_trip}
use Rattle.sweeps.specs.{time_at}
use Rattle.rounds.specs.{Line}
use Rattle.rounds.specs.inside.{asked_of}
use Rattle.rounds.proofs.RideLemmas.{letter_fits, line_found, of_line}
use Rattle.rounds.proofs.asked.Asked.is_sooner.Goals.{else-call-via-then-call+else-delays-crossing, else-call-via-else-call}
use Rattle.rounds.proofs.asked.Asked.is_sooner.Goals as goal

pub targets_of-requires-clause-letter : goal.targets_of-requires-clause-letter
targets_of-requires-clause-letter g c = subst IsLetter (sym c.pattern_letter-letter.ensures) (letter_fits c.args.self.now.rounds.now.timetable.now c.requires.is.table c.args.pattern c.requires.pattern)

pub index-requires-in-loop-place : goal.index-requires-in-loop-place
index-requires-in-loop-place g c =
    let (found, is) = line_found (asked_of {l = g.L.Labels} c.args.self.now) c.requires.is c.args.pattern c.index.result.now c.requires.pattern c.index.ensures in
    omega (arith, is.each, c.loop-place-test.true, ap length c.pattern_calls-call-items.ensures, c.index.result.now.crossings.ok.0)

pub bounds-delays-crossing : goal.bounds-delays-crossing
bounds-delays-crossing g c =
    let (found, is) = line_found (asked_of {l = g.L.Labels} c.args.self.now) c.requires.is c.args.pattern c.index.result.now c.requires.pattern c.index.ensures in
    let crossing = c.index-in-loop-place.result.now in
    let low = is.within c.loop-place.place crossing (omega (arith, is.each, c.loop-place-test.true, ap length c.pattern_calls-call-items.ensures)) in
    omega (arith, low, c.index-in-loop-place.ensures, c.requires.each)

pub bounds-before-crossing : goal.bounds-before-crossing
bounds-before-crossing g c =
    let (found, is) = line_found (asked_of {l = g.L.Labels} c.args.self.now) c.requires.is c.args.pattern c.index.result.now c.requires.pattern c.index.ensures in
    let crossing = c.index-in-loop-place.result.now in
    let low = is.within c.loop-place.place crossing (omega (arith, is.each, c.loop-place-test.true, ap length c.pattern_calls-call-items.ensures)) in
    omega (arith, low, c.index-in-loop-place.ensures, c.requires.each_before)

pub loop-place-preserved : goal.loop-place-preserved
loop-place-preserved g c =
    let (found, is) = line_found (asked_of {l = g.L.Labels} c.args.self.now) c.requires.is c.args.pattern c.index.result.now c.requires.pattern c.index.ensures in
    let calls = (pattern_trip c.args.self.now.rounds.now.timetable.now c.args.pattern).calls in
    let line = c.index.result.now.crossings.items in
    let place = c.loop-place.place in
    let crossing = c.index-in-loop-place.result.now in
    let at : crossing ≡ slice_index line place =
    c.index-in-loop-place.ensures ∙ get_or_default line place crossing 0 (omega (arith, is.each, c.loop-place-test.true, ap length c.pattern_calls-call-items.ensures)) in
    record {
      none = λ board lt. below_more
          (λ (board : ℕ). (slice_index_or calls board no_call).board ≡ true → time_at c.args.before.now (slice_index line board) ≤ time_at c.args.delays.now (slice_index line board)) place c.loop-place.invariant.none
          (λ may. elim c.else-call.branch [
            | else-call-via-then-call+else-delays-crossing w ↦ subst (λ j. time_at c.args.before.now j ≤ time_at c.args.delays.now j) at w.if-delays-crossing.false
            | else-call-via-else-call w ↦ absurd (false≢true (sym (rw c.pattern_calls-call-items.ensures at w.if-call.false) ∙ may))
          ]) board lt;
    }

pub returns : goal.returns
returns g c =
    let a = asked_of {l = g.L.Labels} c.args.self.now in
    let (found, is) = line_found a c.requires.is c.args.pattern c.index.result.now c.requires.pattern c.index.ensures in
    λ same line board r there move lt may. of_line a (λ (x : Line). time_at c.args.before.now (slice_index x.crossings.items board) ≤ time_at c.args.delays.now (slice_index x.crossings.items board)) c.args.pattern c.index.result.now found
    (c.loop-place.invariant.none board (omega (arith, lt, c.loop-place-test.false, ap length c.pattern_calls-call-items.ensures)) may) line there
