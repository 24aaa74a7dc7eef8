use Rattle.plan_base.proofs.Common.{◌≡◌, ◌+◌, ◌∙◌, ℕ, [], ◌∷◌, ◌++◌, List, Option, map, map-append, take, take_more, take_all, slice_index, ap, ap₂, sym}
use Rattle.sweeps.specs.{time_at}
use Rattle.rounds.specs.inside.{time_after}
use Rattle.rounds.proofs.riding.reached_along.Goals as goal

pub loop-crossing-preserved : goal.loop-crossing-preserved
loop-crossing-preserved c =
    let line = c.args.line.now in
    let i = c.loop-crossing.crossing-index in
    let told : ℕ → Option ℕ = λ j. time_after c.args.dep (time_at c.args.delays.now j) in
    c.in_ok-push.ensures.items
    ∙ ap₂ (λ (xs : List (Option ℕ)) (x : Option ℕ). xs ++ x ∷ []) c.loop-crossing.invariant c.time_after.ensures
    ∙ sym (ap (map told) (take_more line i 0 c.loop-crossing-test.true) ∙ map-append told (take i line) (slice_index line i ∷ []))

pub returns : goal.returns
returns c = c.loop-crossing.invariant ∙ ap (map (λ j. time_after c.args.dep (time_at c.args.delays.now j))) (take_all c.loop-crossing.crossing-index c.args.line.now c.loop-crossing-test.false)
