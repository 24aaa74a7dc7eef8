use Rattle.plan_base.proofs.Common.{◌≡◌, ℕ, ◌<◌, Some, None, slice_index, slice_index_or}
use Rattle.rounds.specs.inside.{asked_of, AreCrossedOn, WayIsCrossed, arrival_way}
use Rattle.rounds.proofs.asked.Asked.arrive_along.Given as goal

abbrev pub invariant-loop-place : goal.invariant-loop-place
invariant-loop-place g l = record {
  taken : AreCrossedOn (asked_of {l = g.L.Labels} l.self) l.initial.rows.items l.rows.items l.changed;
  crossed : (k at : ℕ) → k < l.place → slice_index_or l.arrivals k None ≡ Some at
      → WayIsCrossed (asked_of {l = g.L.Labels} l.self) l.rows.items l.state (arrival_way (asked_of {l = g.L.Labels} l.self) l.letter (slice_index l.line k) at);
}
