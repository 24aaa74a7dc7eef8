use Rattle.plan_base.proofs.Common.{◌∙◌, ℕ, Some, arith, sym, subst, slice_index, none-some, same_Some, or_parts}
use Rattle.rounds.specs.inside.{asked_of, WayIsCrossed, arrival_way}
use Rattle.rounds.proofs.{RowLemmas.lowered_same, VisitLemmas.IsAny, VisitLemmas.taken_then, RideLemmas.some_within, RideLemmas.arrival_more}
use Rattle.rounds.proofs.asked.Asked.arrive_along.Goals.{in-Some+in_ok-changed, in_default}
use Rattle.rounds.proofs.asked.Asked.arrive_along.Goals as goal

pub loop-place-preserved : goal.loop-place-preserved
loop-place-preserved g c =
    let a = asked_of {l = g.L.Labels} c.args.self.now in
    let q = c.args.state in
    let k = c.loop-place.place in
    let line = c.args.line.now in
    let arrivals = c.args.arrivals.now in
    let old = c.loop-place.rows.items in
    let before = c.loop-place.invariant in
    elim c.match-arrival.branch [
      | in-Some+in_ok-changed w ↦ (let new = w.arrive.new.rows.items in
          let done = w.in_ok-changed.ensures in
          record {
            taken = rw (w.rows-is, w.changed-is) (taken_then a c.args.rows.now.items old new c.loop-place.changed w.in_ok-changed.field-0 _ (or_parts c.loop-place.changed w.in_ok-changed.field-0) before.taken done.taken);
            crossed = rw w.rows-is (arrival_more a old new q c.args.letter k line arrivals done.taken.lowered before.crossed
                (λ at e. subst (λ (s : ℕ). WayIsCrossed a new q (arrival_way a c.args.letter (slice_index line k) s)) (same_Some w.in-Some.at at (sym w.in-Some.is ∙ e)) done.crossed));
          })
      | in_default w ↦ record {
        taken = rw (w.rows-is, w.changed-is) before.taken;
        crossed = rw w.rows-is (arrival_more a old old q c.args.letter k line arrivals (lowered_same IsAny old) before.crossed (λ at e. absurd (none-some at (sym w.in_default.is ∙ e))));
      }
    ]

pub returns-clause-crossed : goal.returns-clause-crossed
returns-clause-crossed g c = λ k at e. c.loop-place.invariant.crossed k at (omega (arith, some_within c.args.arrivals.now k at e, c.loop-place-test.false)) e
