use Rattle.plan_base.proofs.Common.{◌∷◌, ◌++◌, [], ℕ, List, ◌+◌, ◌≡◌, ◌∙◌, ap, sym, arith}
use Rattle.timetable_arcs.proofs.DayRunLemmas.{range_more}
use Rattle.timetable_arcs.proofs.sorting.places_below.Goals as goal

pub loop-place-preserved : goal.loop-place-preserved
loop-place-preserved c =
    let here : 0 + c.loop-place.place ≡ c.loop-place.place = omega arith in
    c.in_ok-push.ensures.items ∙ (ap (λ (xs : List ℕ). xs ++ c.loop-place.place ∷ []) c.loop-place.invariant ∙ sym (rw here at (range_more 0 c.loop-place.place)))
