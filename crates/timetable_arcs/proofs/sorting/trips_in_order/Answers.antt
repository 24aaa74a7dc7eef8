use Rattle.plan_base.proofs.Common.{List, ℕ, subst, IsPermutation}
use Rattle.timetable_arcs.proofs.sorting.trips_in_order.Goals as goal

pub returns : goal.returns
returns c =
    let places = c.in_ok-places.ensures in
    subst (λ (xs : List ℕ). IsPermutation xs c.sort_by_cached_key.new.self.items) places c.in_ok-sort_by_cached_key.ensures.permutation
