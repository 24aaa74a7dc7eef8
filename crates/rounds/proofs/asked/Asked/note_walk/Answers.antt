use Rattle.plan_base.proofs.Common.{◌∙◌, ◌+◌, ℕ, List, All, take, get_or, sym, subst, arith, take_all, All-more}
use Rattle.product_search.specs.{Label}
use Rattle.rounds.specs.inside.{IsRowLowered, IsOfSource, IsNotedAt}
use Rattle.rounds.proofs.NoteLemmas.{walk_noted, noted_not_there, source_lowered}
use Rattle.rounds.proofs.asked.Asked.note_walk.Goals.{in-Some+in_ok-delay+then-lower_in, in-Some+in_ok-delay+else-lower_in, in_default}
use Rattle.rounds.proofs.asked.Asked.note_walk.Goals as goal

pub loop-label-preserved : goal.loop-label-preserved
loop-label-preserved g c =
    let dep = c.args.self.now.dep in
    let slope = c.args.layer.now.sheet.slope in
    let nodes : List ℕ = slope.nodes.items in
    let turn = c.args.turn.now in
    let labels : List Label = c.args.labels.now in
    let k = c.loop-label.label-index in
    let lt = c.loop-label-test.true in
    let d : Label = record { node = 0; state = 0; at = 0 } in
    let before : List ℕ = c.args.walk.now in
    let now : List ℕ = c.loop-label.walk in
    let kept = c.loop-label.invariant in
    elim c.match-source_place.branch [
      | in-Some+in_ok-delay+then-lower_in w ↦
          (let there = w.in-Some.ensures.some in
          let delay = w.in_ok-delay.ensures in
          let done = w.lower_in.ensures in
          let next : List ℕ = w.lower_in.new.delays in
          record {
            lowered = subst (IsRowLowered (IsOfSource dep nodes labels turn) before) (sym w.walk-is)
                (source_lowered dep nodes labels k d lt w.in-Some.place w.in_ok-delay.delay there.0 there.1 delay.0 turn w.in-Some.ensures.source before now next done.lowered kept.lowered);
            noted = subst (λ (walk : List ℕ). All (IsNotedAt dep nodes turn walk) (take (k + 1) labels)) (sym w.walk-is)
                (walk_noted dep nodes labels k d lt w.in-Some.place w.in_ok-delay.delay there.0 there.1 delay.0 slope.places.items slope.placed delay.1 turn now next done.lowered done.here kept.noted);
            same = λ off. absurd (let sooner = w.sooner-is in cc);
          })
      | in-Some+in_ok-delay+else-lower_in w ↦
          (let there = w.in-Some.ensures.some in
          let delay = w.in_ok-delay.ensures in
          let done = w.lower_in.ensures in
          let next : List ℕ = w.lower_in.new.delays in
          record {
            lowered = subst (IsRowLowered (IsOfSource dep nodes labels turn) before) (sym w.walk-is)
                (source_lowered dep nodes labels k d lt w.in-Some.place w.in_ok-delay.delay there.0 there.1 delay.0 turn w.in-Some.ensures.source before now next done.lowered kept.lowered);
            noted = subst (λ (walk : List ℕ). All (IsNotedAt dep nodes turn walk) (take (k + 1) labels)) (sym w.walk-is)
                (walk_noted dep nodes labels k d lt w.in-Some.place w.in_ok-delay.delay there.0 there.1 delay.0 slope.places.items slope.placed delay.1 turn now next done.lowered done.here kept.noted);
            same = λ off. w.walk-is ∙ done.same w.if-lower_in.false ∙ kept.same (sym w.sooner-is ∙ off);
          })
      | in_default w ↦ record {
        lowered = subst (IsRowLowered (IsOfSource dep nodes labels turn) before) (sym w.walk-is) kept.lowered;
        noted = subst (λ (walk : List ℕ). All (IsNotedAt dep nodes turn walk) (take (k + 1) labels)) (sym w.walk-is)
            (All-more (IsNotedAt dep nodes turn now) labels k d lt kept.noted (noted_not_there dep nodes slope.places.items slope.placed (get_or labels k d) turn now w.in_default.ensures.none));
        same = λ off. w.walk-is ∙ kept.same (sym w.sooner-is ∙ off);
      }
    ]

pub returns-clause-noted : goal.returns-clause-noted
returns-clause-noted g c =
    let labels = c.args.labels.now in
    subst (All (IsNotedAt c.args.self.now.dep c.args.layer.now.sheet.slope.nodes.items c.args.turn.now c.loop-label.walk)) (take_all c.loop-label.label-index labels (omega (arith, c.loop-label-test.false))) c.loop-label.invariant.noted
