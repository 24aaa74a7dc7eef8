-- How a fastest run of a pattern is made of what its runs take at least from call to call.
use Rattle.std.specs.Prelude.{ℕ, ◌+◌, ◌-◌, ◌^◌, ◌<◌, ◌≤◌, min, List, [], ◌∷◌, length, slice_index_or}
use Rattle.timetable_arcs.specs.{Call, no_call}
use Rattle.departures.specs.{declared.fastest.FastestCall.FastestCall, declared.fastest.Stretch.Stretch}

abbrev pub no_stretch : Stretch
no_stretch = record { ride = 0; pass = 0 }

abbrev pub stretch_at : List Stretch → ℕ → Stretch
stretch_at stretches k = slice_index_or stretches k no_stretch

abbrev pub shortened : Stretch → Call → Call → Stretch
shortened stretch from to = record { ride = min stretch.ride (to.arr - from.dep); pass = min stretch.pass (to.arr - from.arr) }

-- no stretch is longer than before
abbrev pub AreShortened : List Stretch → List Stretch → Type 0
AreShortened old new = (k : ℕ) → ((stretch_at new k).ride ≤ (stretch_at old k).ride) × ((stretch_at new k).pass ≤ (stretch_at old k).pass)

-- the stretch at a place is no longer than between the calls there
abbrev pub FitsBetweenCalls : List Call → List Stretch → ℕ → Type 0
FitsBetweenCalls calls stretches k =
    ((stretch_at stretches k).ride ≤ (slice_index_or calls (k + 1) no_call).arr - (slice_index_or calls k no_call).dep)
    × ((stretch_at stretches k).pass ≤ (slice_index_or calls (k + 1) no_call).arr - (slice_index_or calls k no_call).arr)

abbrev pub FitBetweenCalls : List Call → List Stretch → Type 0
FitBetweenCalls calls stretches = (k : ℕ) → k + 1 < length calls → FitsBetweenCalls calls stretches k

-- the calls of a run that arrives at the first of them then, and takes so long from each to the next
abbrev pub calls_from : ℕ → List Stretch → List FastestCall
calls_from arrive [] = record { arrive = arrive; depart = arrive } ∷ []
calls_from arrive (stretch ∷ stretches) =
    record { arrive = arrive; depart = min (stretch.pass + arrive) (2 ^ 32 - 1) - stretch.ride } ∷ calls_from (min (stretch.pass + arrive) (2 ^ 32 - 1)) stretches
