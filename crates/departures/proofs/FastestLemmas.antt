-- No run of a pattern rides faster than a fastest run that is made of stretches that are no longer than its own.
use Rattle.plan_base.proofs.Common.{◌≡◌, ℕ, zero, suc, ◌+◌, ◌<◌, ◌≤◌, ◌⊎◌, ◌∙◌, inl, inr, List, [], ◌∷◌, ◌++◌, length, get_or, sym, ap, subst, arith, slice_index_or, get_or_default, get_or_append_left, get_or_push, cases_lt}
use Rattle.timetable_arcs.specs.{Call, Instance, Ride, TableLists, IsIn, IsBehind, trip_at, call_of, runs_of, arrives, departs, IsTable, IsFirstFrom}
use Rattle.timetable_arcs.proofs.{TableLemmas.never_back, TableLemmas.waits_there, TableLemmas.trip_of_run, TripLemmas.trip_well, RunLemmas.within_patterns}
use Rattle.departures.specs.{FastestCall, fastest_call, ride_ms, least_ms, IsNoFaster, declared.fastest.Stretch.Stretch, inside.AreShortened, inside.FitBetweenCalls, inside.calls_from}
use Rattle.departures.proofs.StretchLemmas.{next_is}

module _ (t : TableLists) (table : IsTable t) (p : ℕ) (run : Instance) (is_in : IsIn t p run) (stretches : List Stretch) (within : FitBetweenCalls (trip_at t run.trip).calls stretches) where
  abbrev fast : ℕ → FastestCall
  fast k = fastest_call (calls_from 0 stretches) k

  abbrev arr : ℕ → ℕ
  arr k = (call_of t run k).arr

  abbrev dep : ℕ → ℕ
  dep k = (call_of t run k).dep

  -- to the next call it takes no longer than the run
  record GoesOn (k next : ℕ) : Type 0 where
    passes : (fast next).arrive + arr k ≤ (fast k).arrive + arr next
    rides : (fast next).arrive + dep k ≤ (fast k).depart + arr next

  goes_on : (k : ℕ) → k + 1 < length (trip_at t run.trip).calls → GoesOn k (k + 1)
  goes_on k lt =
      let next = next_is 0 stretches k in
      let pass = next.pass in
      let ride = next.ride in
      let (short_ride, short_pass) = within k lt in
      let later = never_back t table p run is_in k (k + 1) (omega arith) lt in
      let waits = waits_there t table p run is_in k (omega (arith, lt)) in
      record { passes = omega (arith, pass, short_pass, later, waits); rides = omega (arith, ride, short_ride, later) }

  -- nor to any later one, from when it is at the call behind i
  no_later : (i j : ℕ) → i + 1 ≤ j → j < length (trip_at t run.trip).calls → (fast j).arrive + arr (i + 1) ≤ (fast (i + 1)).arrive + arr j
  no_later i zero le lt = absurd (omega arith)
  no_later i (suc j) le lt = on_order (λ from. no_later i j from (omega arith)) (cases_lt i j)
    where
      on_order : (i + 1 ≤ j → (fast j).arrive + arr (i + 1) ≤ (fast (i + 1)).arrive + arr j) → (i < j) ⊎ (j ≤ i) → (fast (suc j)).arrive + arr (i + 1) ≤ (fast (i + 1)).arrive + arr (suc j)
      on_order before (inl less) =
          let same : j + 1 ≡ suc j = omega arith in
          let so_far = before (omega arith) in
          let more = (goes_on j (omega arith)).passes in
          subst (λ k. (fast k).arrive + arr (i + 1) ≤ (fast (i + 1)).arrive + arr k) same (omega (arith, so_far, more))
      on_order before (inr ge) =
          let same : i + 1 ≡ suc j = omega arith in
          subst (λ k. (fast k).arrive + arr (i + 1) ≤ (fast (i + 1)).arrive + arr k) same (omega arith)

  pub none_is_faster : (board alight : ℕ) → board < alight → alight < length (trip_at t run.trip).calls
      → departs t run board + ride_ms (calls_from 0 stretches) board alight ≤ arrives t run alight
  none_is_faster board alight less lt =
      let on = (goes_on board (omega arith)).rides in
      let off = no_later board alight (omega arith) lt in
      let later = never_back t table p run is_in board alight less lt in
      omega (arith, on, off, later)

-- ---- runs in turn

-- the stretches are no longer than those of the runs that depart before a time
abbrev pub AreShort : TableLists → ℕ → ℕ → List Stretch → Type 0
AreShort t p time stretches = (run : Instance) → IsIn t p run → departs t run 0 < time → FitBetweenCalls (trip_at t run.trip).calls stretches

shorter_within : (calls : List Call) (old new : List Stretch) → AreShortened old new → FitBetweenCalls calls old → FitBetweenCalls calls new
shorter_within calls old new shortened within k lt =
    let (ride, pass) = within k lt in
    let (less_ride, less_pass) = shortened k in
    (omega (arith, ride, less_ride), omega (arith, pass, less_pass))

module _ (t : TableLists) (table : IsTable t) (p : ℕ) where
  behind : (x y : Instance) (k l : ℕ) → IsIn t p x → k < l → l < length (runs_of t p) → slice_index_or (runs_of t p) k x ≡ x → slice_index_or (runs_of t p) l y ≡ y
      → departs t x 0 < departs t y 0
  behind x y k l is_in less within x_is y_is =
      let some = (trip_well _ _ _ (trip_of_run t table p x is_in)).two_calls in
      let first : get_or (runs_of t p) k y ≡ x = get_or_default (runs_of t p) k y x (omega arith) ∙ x_is in
      let turn = table.patterns.in_turn p (within_patterns t table.patterns p x is_in) k l y less within in
      let in_turn : IsBehind t x y = subst (IsBehind t x) y_is (subst (λ (r : Instance). IsBehind t r (get_or (runs_of t p) l y)) first turn) in
      in_turn.departs_later 0 (omega arith)

  -- two runs of a pattern that depart together are one
  same_run : (a b : Instance) → IsIn t p a → IsIn t p b → departs t a 0 ≡ departs t b 0 → a ≡ b
  same_run a b (i, a_in, a_is) (j, b_in, b_is) same = on_order (cases_lt i j) (cases_lt j i)
    where
      on_order : (i < j) ⊎ (j ≤ i) → (j < i) ⊎ (i ≤ j) → a ≡ b
      on_order (inl less) other = let before = behind a b i j (i, a_in, a_is) less b_in a_is b_is in absurd (omega arith)
      on_order (inr ge) (inl less) = let before = behind b a j i (j, b_in, b_is) less a_in b_is a_is in absurd (omega arith)
      on_order (inr ge) (inr le) =
          let at : i ≡ j = omega arith in
          sym a_is ∙ ap (λ k. get_or (runs_of t p) k a) at ∙ get_or_default (runs_of t p) j a b b_in ∙ b_is

  pub shorter : (time : ℕ) (old new : List Stretch) (run : Instance) → AreShort t p time old → IsFirstFrom t p 0 time run → AreShortened old new
      → FitBetweenCalls (trip_at t run.trip).calls new → AreShort t p (departs t run 0 + 1) new
  shorter time old new run short first shortened own other is_in early = on_order (cases_lt (departs t other 0) time)
    where
      on_order : (departs t other 0 < time) ⊎ (time ≤ departs t other 0) → FitBetweenCalls (trip_at t other.trip).calls new
      on_order (inl before) = shorter_within (trip_at t other.trip).calls old new shortened (short other is_in before)
      on_order (inr later) =
          let le = first.first other is_in later in
          let same = same_run run other first.is_in is_in (omega arith) in
          subst (λ (r : Instance). FitBetweenCalls (trip_at t r.trip).calls new) same own

-- ---- pattern by pattern

module _ (t : TableLists) (table : IsTable t) (p : ℕ) (stretches : List Stretch) (within : (run : Instance) → IsIn t p run → FitBetweenCalls (trip_at t run.trip).calls stretches) where
  -- a fastest run of one pattern more
  pub none_faster_more : (runs : List (List FastestCall)) → length runs ≡ p → ((run : Instance) (ride : Ride) → ride.pattern < p → IsNoFaster t runs run ride)
      → (run : Instance) (ride : Ride) → ride.pattern < p + 1 → IsNoFaster t (runs ++ calls_from 0 stretches ∷ []) run ride
  none_faster_more runs len none run ride lt is_in less inside = on_order (cases_lt ride.pattern p)
    where
      on_order : (ride.pattern < p) ⊎ (p ≤ ride.pattern) → departs t run ride.board + least_ms (runs ++ calls_from 0 stretches ∷ []) ride ≤ arrives t run ride.alight
      on_order (inl before) =
          let same = get_or_append_left runs (calls_from 0 stretches ∷ []) [] ride.pattern (omega (arith, before, len)) in
          subst (λ (calls : List FastestCall). departs t run ride.board + ride_ms calls ride.board ride.alight ≤ arrives t run ride.alight) (sym same) (none run ride before is_in less inside)
      on_order (inr now) =
          let at : ride.pattern ≡ p = omega arith in
          let last = get_or_push runs (calls_from 0 stretches) [] ride.pattern (omega (arith, len)) in
          let own = within run (subst (λ k. IsIn t k run) at is_in) in
          subst (λ (calls : List FastestCall). departs t run ride.board + ride_ms calls ride.board ride.alight ≤ arrives t run ride.alight) (sym last)
          (none_is_faster t table ride.pattern run is_in stretches own ride.board ride.alight less inside)
