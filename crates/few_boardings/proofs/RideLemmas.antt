-- A journey has as many rides as its letters have transit letters.
use Rattle.plan_base.proofs.Common.{◌≡◌, ℕ, ◌+◌, ◌^◌, ◌≤◌, ◌&&◌, nat_le, nat_lt, cond, length, slice_get, List, [], ◌∷◌, ◌++◌, Option, Some, None, refl, sym, ap, ◌∙◌, subst, arith, option_to_list, count_by, list_all, leb-true, sum_by-cons, get_or_from_slice_get, slice_get_within}
use Rattle.timetable_arcs.specs.{TripLists, is_early}
use Rattle.timetable_arcs.proofs.TripLemmas.{IsKeptTrip, trips_kept}
use Rattle.mode_network.specs.{Step, Wait, Link, Stand, Ride, letter_at, IsNetwork, IsStep, AreSteps, declared.steps.Step.TheVariants.Road, NetworkLists.NetworkLists}
use Rattle.mode_network.proofs.RuleLemmas.{both, letter_is_road}
use Rattle.few_boardings.specs.{transits, added, added_road, added_transit, is_ride}
use Rattle.few_boardings.proofs.CountedLemmas.{transits_more}

pub rides_more : (step : Step) (steps : List Step) → count_by is_ride (step ∷ steps) ≡ cond (is_ride step) 1 0 + count_by is_ride steps
rides_more step steps = sum_by-cons (λ (s : Step). cond (is_ride s) 1 0) step steps

-- what a letter, if there is one, adds to the count
abbrev added_by : Option ℕ → ℕ
added_by None = 0
added_by (Some c) = added c

with_letter : (letter : Option ℕ) (rest : List ℕ) → transits (option_to_list letter ++ rest) ≡ added_by letter + transits rest
with_letter None rest = omega arith
with_letter (Some c) rest = transits_more c rest

module _ (n : NetworkLists) (network : IsNetwork n) where
  transit_of : (trip : ℕ) (run : TripLists) → slice_get n.trips trip ≡ Some run → 3 ≤ run.letter
  transit_of trip run is =
      let kept = subst (IsKeptTrip (length n.days.bases) (length n.stops)) (get_or_from_slice_get n.trips trip run run is)
      (trips_kept (length n.days.bases) (length n.stops) 0 n.trips network.trips_fit.faultless trip run (slice_get_within n.trips trip run is)) in
      let letter = nat_le 3 run.letter && nat_le run.letter 13 in
      let calls = letter && nat_le 2 (length run.calls) in
      let with_days = calls && (nat_lt 0 run.days.0 && nat_lt run.days.0 (2 ^ length n.days.bases)) in
      let is = (both calls _ (both with_days (list_all is_early run.calls) kept.is).0).0 in
      leb-true 3 run.letter (both (nat_le 3 run.letter) (nat_le run.letter 13) (both letter (nat_le 2 (length run.calls)) is).0).0

  road_adds_none : (v : ℕ) (letter mode : Option ℕ) → letter_at n.roads v ≡ mode → letter ≡ mode → added_by letter ≡ 0
  road_adds_none v letter None is same = ap added_by same
  road_adds_none v letter (Some mode) is same = ap added_by same ∙ added_road mode (letter_is_road n network v mode is).1

  step_adds : (v t : ℕ) (step : Step) (w u : ℕ) (letter : Option ℕ) → IsStep n v t step w u letter → added_by letter ≡ cond (is_ride step) 1 0
  step_adds v t (Wait until) w u letter (later, same, now, none) = ap added_by none
  step_adds v t (Road to) w u letter (ms, leads, there, then, is) = road_adds_none v letter (letter_at n.roads v) refl is
  step_adds v t (Link to) w u letter (ms, leads, there, then, none) = ap added_by none
  step_adds v t Stand w u letter (mode, is, same, now, some) = road_adds_none v letter (Some mode) is some
  step_adds v t (Ride trip day board alight) w u letter (run, on, off, ride, from, later, to, then, some) =
      ap added_by some ∙ added_transit run.letter (transit_of trip run ride.run.is)

  pub letters_count : (v t : ℕ) (steps : List Step) (w u : ℕ) (letters : List ℕ) → AreSteps n v t steps w u letters → transits letters ≡ count_by is_ride steps
  letters_count v t [] w u letters (same, now, none) = ap transits none
  letters_count v t (step ∷ steps) w u letters (v1, t1, letter, rest, is, more, e) =
      ap transits e ∙ with_letter letter rest ∙ ap (λ k. k + transits rest) (step_adds v t step v1 t1 letter is)
      ∙ ap (λ k. cond (is_ride step) 1 0 + k) (letters_count v1 t1 steps w u rest more) ∙ sym (rides_more step steps)
