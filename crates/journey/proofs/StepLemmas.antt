-- Steps of a network, one after the other.
use Rattle.plan_base.proofs.Common.{◌≡◌, ℕ, ◌+◌, ◌<◌, ◌≤◌, ◌∙◌, List, [], ◌∷◌, ◌++◌, length, length-append, ◌*◌, append_assoc, append-nil, ◌⊎◌, inl, inr, ◌^◌, Option, Some, refl, ap, sym, subst, arith, option_to_list, slice_get, slice_get_within, lt_of_lt_of_le}
use Rattle.timetable_arcs.specs.{Call, TripLists, arrival_of}
use Rattle.plain_texts.specs.{with_feed}
use Rattle.mode_network.specs.{Arc, Step, Wait, Link, Stand, Ride, nodes_of, stop_node, IsNetwork, IsStep, AreSteps, declared.steps.Step.TheVariants.Road, NetworkLists.NetworkLists}
use Rattle.mode_network.proofs.{FindLemmas.leads_once, RuleLemmas.some_is, RuleLemmas.arcs_in_range, RuleLemmas.links_in_range, RuleLemmas.nodes_hold_roads}
use Rattle.search_laws.specs.{time_bound}
use Rattle.journey.specs.{AreTaken, HasTime, step_text, AreTold, IsThere, KeepsRules}
use Rattle.journey.proofs.RideLemmas.{call_named, run_within, arrives_soon}

module _ (n : NetworkLists) where
  -- a step ends at one place, at one time and with one letter
  pub step_once : IsNetwork n → (v t : ℕ) (step : Step) (w u : ℕ) (c : Option ℕ) (w2 u2 : ℕ) (c2 : Option ℕ)
      → IsStep n v t step w u c → IsStep n v t step w2 u2 c2 → (w ≡ w2) × (u ≡ u2) × (c ≡ c2)
  step_once network v t (Wait until) w u c w2 u2 c2 (later, a, b, d) (later2, a2, b2, d2) = (a ∙ sym a2, b ∙ sym b2, d ∙ sym d2)
  step_once network v t (Road to) w u c w2 u2 c2 (ms, leads, a, b, d) (ms2, leads2, a2, b2, d2) =
      let same = leads_once n.arcs network.arcs_ascend v to ms ms2 leads leads2 in
      (a ∙ sym a2, b ∙ (ap (λ x. t + x) same ∙ sym b2), d ∙ sym d2)
  step_once network v t (Link to) w u c w2 u2 c2 (ms, leads, a, b, d) (ms2, leads2, a2, b2, d2) =
      let same = leads_once n.links network.links_ascend v to ms ms2 leads leads2 in
      (a ∙ sym a2, b ∙ (ap (λ x. t + x) same ∙ sym b2), d ∙ sym d2)
  step_once network v t Stand w u c w2 u2 c2 (mode, has, a, b, d) (mode2, has2, a2, b2, d2) =
      (a ∙ sym a2, b ∙ sym b2, d ∙ (ap Some (some_is (sym has ∙ has2)) ∙ sym d2))
  step_once network v t (Ride trip day board alight) w u c w2 u2 c2 (run, on, off, ride, at, soon, a, b, d) (run2, on2, off2, ride2, at2, soon2, a2, b2, d2) =
      let same : run ≡ run2 = some_is (sym ride.run.is ∙ ride2.run.is) in
      let same_off : off ≡ off2 = some_is (sym ride.off_is ∙ (ap (λ (r : TripLists). slice_get r.calls alight) same ∙ ride2.off_is)) in (
        a ∙ (ap (λ (x : Call). stop_node n x.stop) same_off ∙ sym a2),
        b ∙ (ap (λ (x : Call). arrival_of n.days.bases day x) same_off ∙ sym b2),
        d ∙ (ap (λ (r : TripLists). Some r.letter) same ∙ sym d2),
      )

  -- a step more at the end
  pub steps_more : (v t : ℕ) (steps : List Step) (w u : ℕ) (letters : List ℕ) (step : Step) (w2 u2 : ℕ) (c : Option ℕ)
      → AreSteps n v t steps w u letters → IsStep n w u step w2 u2 c → AreSteps n v t (steps ++ step ∷ []) w2 u2 (letters ++ option_to_list c)
  steps_more v t [] w u letters step w2 u2 c (at, now, none) next = (
    w2,
    u2,
    c,
    [],
    subst (λ x. IsStep n x t step w2 u2 c) at (subst (λ y. IsStep n w y step w2 u2 c) now next),
    (refl, refl, refl),
    ap (λ (x : List ℕ). x ++ option_to_list c) none ∙ sym (append-nil (option_to_list c)),
  )
  steps_more v t (first ∷ steps) w u letters step w2 u2 c (v1, t1, letter, rest, here, more, e) next = (
    v1,
    t1,
    letter,
    rest ++ option_to_list c,
    here,
    steps_more v1 t1 steps w u rest step w2 u2 c more next,
    ap (λ (x : List ℕ). x ++ option_to_list c) e ∙ append_assoc (option_to_list letter) rest (option_to_list c),
  )

  -- the same with the lines of the steps
  pub told_more : (v t : ℕ) (steps : List Step) (w u : ℕ) (letters text : List ℕ) (step : Step) (w2 u2 : ℕ) (c : Option ℕ)
      → AreTold n v t steps w u letters text → IsStep n w u step w2 u2 c
      → AreTold n v t (steps ++ step ∷ []) w2 u2 (letters ++ option_to_list c) (text ++ with_feed (step_text n step w2 u2))
  told_more v t [] w u letters text step w2 u2 c (at, now, none, empty) next = (
    w2,
    u2,
    c,
    [],
    [],
    subst (λ x. IsStep n x t step w2 u2 c) at (subst (λ y. IsStep n w y step w2 u2 c) now next),
    (refl, refl, refl, refl),
    ap (λ (x : List ℕ). x ++ option_to_list c) none ∙ sym (append-nil (option_to_list c)),
    ap (λ (x : List ℕ). x ++ with_feed (step_text n step w2 u2)) empty ∙ sym (append-nil (with_feed (step_text n step w2 u2))),
  )
  told_more v t (first ∷ steps) w u letters text step w2 u2 c (v1, t1, letter, rest, lines, here, more, e, f) next = (
    v1,
    t1,
    letter,
    rest ++ option_to_list c,
    lines ++ with_feed (step_text n step w2 u2),
    here,
    told_more v1 t1 steps w u rest lines step w2 u2 c more next,
    ap (λ (x : List ℕ). x ++ option_to_list c) e ∙ append_assoc (option_to_list letter) rest (option_to_list c),
    ap (λ (x : List ℕ). x ++ with_feed (step_text n step w2 u2)) f ∙ append_assoc (with_feed (step_text n first v1 t1)) lines (with_feed (step_text n step w2 u2)),
  )

  -- what is left of steps after the first can be taken from its end
  pub taken_on : IsNetwork n → (v t : ℕ) (step : Step) (steps : List Step) (w u : ℕ) (c : Option ℕ) → AreTaken n v t (step ∷ steps) → IsStep n v t step w u c → AreTaken n w u steps
  taken_on network v t step steps w u c taken here =
      let (v1, t1, letter, rest, first, more, e) = taken.are in
      let same = step_once network v t step v1 t1 letter w u c first here in
      record {
        end = taken.end;
        arrival = taken.arrival;
        letters = rest;
        are = subst (λ x. AreSteps n x u steps taken.end taken.arrival rest) same.0 (subst (λ y. AreSteps n v1 y steps taken.end taken.arrival rest) same.1 more);
      }

  -- a step leads from a node to one
  pub step_in_range : KeepsRules n → (v t : ℕ) (step : Step) (w u : ℕ) (c : Option ℕ) → v < length (nodes_of n) → IsStep n v t step w u c → w < length (nodes_of n)
  step_in_range rules v t (Wait until) w u c h (later, at, now, none) = subst (λ x. x < length (nodes_of n)) (sym at) h
  step_in_range rules v t (Road to) w u c h (ms, (k, lt, is), at, now, read) =
      let inside = subst (λ (a : Arc). a.to < length n.roads) is (arcs_in_range n rules.network k _ lt).1 in
      rw at (lt_of_lt_of_le inside (nodes_hold_roads n rules.network))
  step_in_range rules v t (Link to) w u c h (ms, (k, lt, is), at, now, read) =
      rw at (subst (λ (a : Arc). a.to < length (nodes_of n)) is (links_in_range n rules.network k _ lt).1)
  step_in_range rules v t Stand w u c h (mode, has, at, now, read) = subst (λ x. x < length (nodes_of n)) (sym at) h
  step_in_range rules v t (Ride trip day board alight) w u c h (run, on, off, ride, from, soon, at, now, read) =
      let named = call_named n rules.network trip run ride.run.is alight off ride.off_is in
      let held : length n.roads + off.stop < length (nodes_of n) = omega (arith, named, rules.network.parts.one_name_each, length-append (n.roads ++ n.stops) n.switches, length-append n.roads n.stops) in
      rw at held

  -- a step ends no more than 2 ^ 32 ms later, or when a wait does
  pub step_in_time : KeepsRules n → (v t : ℕ) (step : Step) (w u : ℕ) (c : Option ℕ) → HasTime step → IsStep n v t step w u c → (u ≤ t + 2 ^ 32) ⊎ (u < time_bound)
  step_in_time rules v t (Wait until) w u c h (later, at, now, none) = inr (subst (λ x. x < time_bound) (sym now) h)
  step_in_time rules v t (Road to) w u c h (ms, (k, lt, is), at, now, read) =
      let fits = subst (λ (a : Arc). a.ms < 2 ^ 32) is (rules.network.arcs_fit k _ lt) in
      inl (omega arith)
  step_in_time rules v t (Link to) w u c h (ms, (k, lt, is), at, now, read) =
      let fits = subst (λ (a : Arc). a.ms < 2 ^ 32) is (rules.network.links_fit k _ lt) in
      inl (omega arith)
  step_in_time rules v t Stand w u c h (mode, has, at, now, read) = inl (omega arith)
  step_in_time rules v t (Ride trip day board alight) w u c h (run, on, off, ride, from, soon, at, now, read) =
      let small = arrives_soon n rules trip day run ride.run alight off ride.off_is in
      inr (omega (arith, small, now))

  -- the trip and the day of a step are there
  pub step_there : KeepsRules n → (v t : ℕ) (step : Step) (w u : ℕ) (c : Option ℕ) → IsStep n v t step w u c → IsThere n step
  step_there rules v t (Wait until) w u c is = tt
  step_there rules v t (Road to) w u c is = tt
  step_there rules v t (Link to) w u c is = tt
  step_there rules v t Stand w u c is = tt
  step_there rules v t (Ride trip day board alight) w u c (run, on, off, ride, from, soon, at, now, read) =
      (slice_get_within n.trips trip run ride.run.is, run_within n rules trip day run ride.run)

-- the times of steps rise no faster
pub on_time : (k at u : ℕ) → at < time_bound + k * 2 ^ 32 → (u ≤ at + 2 ^ 32) ⊎ (u < time_bound) → u < time_bound + (k + 1) * 2 ^ 32
on_time k at u before (inl near) = omega arith
on_time k at u before (inr waited) = omega arith

-- steps end at one place, at one time and with one list of letters
pub steps_once : (n : NetworkLists) → IsNetwork n → (v t : ℕ) (steps : List Step) (w u : ℕ) (letters : List ℕ) (w2 u2 : ℕ) (letters2 : List ℕ)
    → AreSteps n v t steps w u letters → AreSteps n v t steps w2 u2 letters2 → (w ≡ w2) × (u ≡ u2) × (letters ≡ letters2)
steps_once n network v t [] w u letters w2 u2 letters2 (a, b, c) (a2, b2, c2) = (a ∙ sym a2, b ∙ sym b2, c ∙ sym c2)
steps_once n network v t (step ∷ steps) w u letters w2 u2 letters2 (v1, t1, letter, rest, here, more, e) (v2, t2, letter2, rest2, here2, more2, e2) =
    let (at, now, same) = step_once n network v t step v1 t1 letter v2 t2 letter2 here here2 in
    let later : AreSteps n v2 t2 steps w u rest = subst (λ x. AreSteps n x t2 steps w u rest) at (subst (λ y. AreSteps n v1 y steps w u rest) now more) in
    let ends = steps_once n network v2 t2 steps w u rest w2 u2 rest2 later more2 in (
      ends.0,
      ends.1,
      e ∙ (ap (λ o. option_to_list o ++ rest) same ∙ (ap (λ ls. option_to_list letter2 ++ ls) ends.2 ∙ sym e2)),
    )
