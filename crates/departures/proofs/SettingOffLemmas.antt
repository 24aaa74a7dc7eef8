-- Steps without the waits before their first ride lead to the same end.
use Rattle.plan_base.proofs.Common.{◌≡◌, ℕ, suc, ◌+◌, ◌-◌, ◌*◌, ◌^◌, ◌<◌, ◌≤◌, Bool, true, false, cond, List, [], ◌∷◌, ◌++◌, length, drop, drop-cons, add-one, Option, refl, sym, ap, ◌∙◌, subst, arith, All, option_to_list, slice_index_or, count_by, drop_all, All-cons, All-tail}
use Rattle.mode_network.specs.{Step, Wait, Link, Stand, Ride, IsNetwork, IsStep, declared.steps.Step.TheVariants.Road, NetworkLists.NetworkLists}
use Rattle.search_laws.specs.{time_bound}
use Rattle.journey.specs.{DepartsAt, AreOnTime, HasTime, KeepsRules}
use Rattle.journey.proofs.StepLemmas.{step_once, step_in_time, on_time}
use Rattle.few_boardings.specs.{is_ride}
use Rattle.few_boardings.proofs.RideLemmas.{rides_more}
use Rattle.departures.specs.{SetsOff, inside.unwaited, inside.waiting, inside.MayLeaveLater}

-- ---- what the steps are

pub sets_off : (steps : List Step) → SetsOff (unwaited steps)
sets_off [] = tt
sets_off (Wait until ∷ steps) = sets_off steps
sets_off (Road to ∷ steps) = tt
sets_off (Link to ∷ steps) = tt
sets_off (Stand ∷ steps) = sets_off steps
sets_off (Ride trip day board alight ∷ steps) = tt

-- both lists have a step more, which adds as much
one_more : (step : Step) (some all : List Step) → count_by is_ride some ≡ count_by is_ride all → count_by is_ride (step ∷ some) ≡ count_by is_ride (step ∷ all)
one_more step some all same = rides_more step some ∙ ap (λ k. cond (is_ride step) 1 0 + k) same ∙ sym (rides_more step all)

pub same_rides : (steps : List Step) → count_by is_ride (unwaited steps) ≡ count_by is_ride steps
same_rides [] = refl
same_rides (Wait until ∷ steps) = let same = same_rides steps in let more = rides_more (Wait until) steps in omega arith
same_rides (Road to ∷ steps) = one_more (Road to) (unwaited steps) steps (same_rides steps)
same_rides (Link to ∷ steps) = one_more (Link to) (unwaited steps) steps (same_rides steps)
same_rides (Stand ∷ steps) = one_more Stand (unwaited steps) steps (same_rides steps)
same_rides (Ride trip day board alight ∷ steps) = refl

pub have_times : (steps : List Step) → All HasTime steps → All HasTime (unwaited steps)
have_times [] times = times
have_times (Wait until ∷ steps) times = have_times steps (All-tail HasTime (Wait until) steps times)
have_times (Road to ∷ steps) times = All-cons HasTime (Road to) (unwaited steps) tt (have_times steps (All-tail HasTime (Road to) steps times))
have_times (Link to ∷ steps) times = All-cons HasTime (Link to) (unwaited steps) tt (have_times steps (All-tail HasTime (Link to) steps times))
have_times (Stand ∷ steps) times = All-cons HasTime Stand (unwaited steps) tt (have_times steps (All-tail HasTime Stand steps times))
have_times (Ride trip day board alight ∷ steps) times = times

-- ---- how they are made

-- the steps that are left, without the waits unless one has ridden
abbrev pub rest_of : Bool → List Step → List Step
rest_of true steps = steps
rest_of false steps = unwaited steps

-- the first of the steps that are left
pub left_with : (steps : List Step) (k : ℕ) (step : Step) → k < length steps → slice_index_or steps k step ≡ step → drop k steps ≡ step ∷ drop (k + 1) steps
left_with steps k step lt is = drop-cons steps k step lt ∙ (ap (λ (x : Step). x ∷ drop (suc k) steps) is ∙ ap (λ i. step ∷ drop i steps) (sym (add-one k)))

-- ---- when they leave

module _ (n : NetworkLists) where
  -- who leaves later by nothing
  pub none_later : (v t : ℕ) (steps : List Step) → unwaited steps ≡ steps → MayLeaveLater n v t steps 0
  none_later v t steps same w u letters are =
      let now : t ≡ t + 0 = omega arith in
      subst (λ (s : List Step). AreOnTime n v (t + 0) s w u letters) (sym same) (subst (λ x. AreOnTime n v x steps w u letters) now are)

  -- a step that is taken later, and those behind it
  then_later : IsNetwork n → (v t s : ℕ) (step : Step) (steps : List Step) (v1 t1 s1 : ℕ) (c : Option ℕ) → IsStep n v t step v1 t1 c → IsStep n v s step v1 s1 c → DepartsAt n s step
      → ((w u : ℕ) (letters : List ℕ) → AreOnTime n v1 t1 steps w u letters → AreOnTime n v1 s1 (unwaited steps) w u letters)
      → (w u : ℕ) (letters : List ℕ) → AreOnTime n v t (step ∷ steps) w u letters → AreOnTime n v s (step ∷ unwaited steps) w u letters
  then_later network v t s step steps v1 t1 s1 c is later departs behind w u letters (v2, t2, c2, rest, is2, departs2, more, e) =
      let same = step_once n network v t step v2 t2 c2 v1 t1 c is2 is in
      let there = subst (λ x. AreOnTime n x t1 steps w u rest) same.0 (subst (λ x. AreOnTime n v2 x steps w u rest) same.1 more) in
      (v1, s1, c, rest, later, departs, behind w u rest there, e ∙ ap (λ (o : Option ℕ). option_to_list o ++ rest) same.2)

  wait_later : (v t until : ℕ) (steps : List Step) (m k : ℕ) → t ≤ until → MayLeaveLater n v until steps m → k ≡ until - t + m → MayLeaveLater n v t (Wait until ∷ steps) k
  wait_later v t until steps m k late behind e w u letters (v2, t2, c2, rest, (late2, same, now, none), departs, more, word) =
      let there = subst (λ x. AreOnTime n x until steps w u rest) same (subst (λ x. AreOnTime n v2 x steps w u rest) now more) in
      let at : until + m ≡ t + k = omega arith in
      let letters_are : letters ≡ rest = word ∙ ap (λ (o : Option ℕ). option_to_list o ++ rest) none in
      subst (λ (ls : List ℕ). AreOnTime n v (t + k) (unwaited steps) w u ls) (sym letters_are) (subst (λ x. AreOnTime n v x (unwaited steps) w u rest) at (behind w u rest there))

  -- one leaves later by as long as the step waits and those behind it allow
  later_more : IsNetwork n → (v t : ℕ) (step : Step) (steps : List Step) (v1 t1 : ℕ) (c : Option ℕ) (m k : ℕ) → is_ride step ≡ false → IsStep n v t step v1 t1 c
      → MayLeaveLater n v1 t1 steps m → k ≡ waiting step t + m → MayLeaveLater n v t (step ∷ steps) k
  later_more network v t (Wait until) steps v1 t1 c m k no_ride (late, same, now, none) behind e =
      wait_later v t until steps m k late (subst (λ x. MayLeaveLater n x until steps m) same (subst (λ x. MayLeaveLater n v1 x steps m) now behind)) e
  later_more network v t (Road to) steps v1 t1 c m k no_ride (ms, leads, same, now, letter) behind e =
      then_later network v t (t + k) (Road to) steps v1 t1 (t1 + m) c (ms, leads, same, now, letter) (ms, leads, same, omega arith, letter) tt behind
  later_more network v t (Link to) steps v1 t1 c m k no_ride (ms, leads, same, now, letter) behind e =
      then_later network v t (t + k) (Link to) steps v1 t1 (t1 + m) c (ms, leads, same, now, letter) (ms, leads, same, omega arith, letter) tt behind
  later_more network v t Stand steps v1 t1 c m k no_ride (mode, is, same, now, letter) behind e =
      then_later network v t (t + k) Stand steps v1 t1 (t1 + m) c (mode, is, same, now, letter) (mode, is, same, omega arith, letter) tt behind
  later_more network v t (Ride trip day board alight) steps v1 t1 c m k no_ride is behind e = absurd cc

  -- a step ends no earlier than one that waited as long before it, and that is within time
  waits_within : (v t : ℕ) (step : Step) (w u : ℕ) (c : Option ℕ) (s : ℕ) → is_ride step ≡ false → HasTime step → IsStep n v t step w u c → s ≤ t → s < time_bound
      → (s + waiting step t ≤ u) × (s + waiting step t < time_bound)
  waits_within v t (Wait until) w u c s no_ride time (late, same, now, none) le soon = (omega arith, omega arith)
  waits_within v t (Road to) w u c s no_ride time (ms, leads, same, now, letter) le soon = (omega arith, omega arith)
  waits_within v t (Link to) w u c s no_ride time (ms, leads, same, now, letter) le soon = (omega arith, omega arith)
  waits_within v t Stand w u c s no_ride time (mode, is, same, now, letter) le soon = (omega arith, omega arith)
  waits_within v t (Ride trip day board alight) w u c s no_ride time is le soon = absurd cc

  -- after k steps, none a ride, the journey is at the node at the time, and has waited so long
  pub record IsWaiting (start at : ℕ) (steps : List Step) (k node time waited : ℕ) : Type 0 where
    pub soon : at + waited < time_bound
    pub before : at + waited ≤ time
    pub in_time : time < time_bound + k * 2 ^ 32
    pub leaves : (m : ℕ) → MayLeaveLater n node time (drop k steps) m → MayLeaveLater n start at steps (waited + m)

  pub waiting_more : KeepsRules n → (start at : ℕ) (steps : List Step) → All HasTime steps → (k node time waited : ℕ) (step : Step) → IsWaiting start at steps k node time waited
      → k < length steps → slice_index_or steps k step ≡ step → is_ride step ≡ false → (w u : ℕ) (c : Option ℕ) → IsStep n node time step w u c
      → IsWaiting start at steps (k + 1) w u (waited + waiting step time)
  waiting_more rules start at steps times k node time waited step so_far lt is no_ride w u c here =
      let timed = subst HasTime is (times k step lt) in
      let fits = waits_within node time step w u c (at + waited) no_ride timed here so_far.before so_far.soon in
      record {
        soon = (let within = fits.1 in omega arith);
        before = (let le = fits.0 in omega arith);
        in_time = on_time k time u so_far.in_time (step_in_time n rules node time step w u c timed here);
        leaves = λ m may. (
            let behind = later_more rules.network node time step (drop (k + 1) steps) w u c m (waiting step time + m) no_ride here may refl in
            let whole = so_far.leaves (waiting step time + m) (subst (λ (s : List Step). MayLeaveLater n node time s (waiting step time + m)) (sym (left_with steps k step lt is)) behind) in
            let same : waited + (waiting step time + m) ≡ waited + waiting step time + m = omega arith in
            subst (MayLeaveLater n start at steps) same whole);
      }

  -- where one leaves later by nothing for the steps that are left, one has waited so long
  waited_so : (start at : ℕ) (steps : List Step) (k node time waited : ℕ) → IsWaiting start at steps k node time waited → MayLeaveLater n node time (drop k steps) 0
      → MayLeaveLater n start at steps waited
  waited_so start at steps k node time waited so_far may =
      let same : waited + 0 ≡ waited = omega arith in subst (MayLeaveLater n start at steps) same (so_far.leaves 0 may)

  ride_waits_not : (v t : ℕ) (step : Step) (steps : List Step) → is_ride step ≡ true → MayLeaveLater n v t (step ∷ steps) 0
  ride_waits_not v t (Wait until) steps ride = absurd cc
  ride_waits_not v t (Road to) steps ride = absurd cc
  ride_waits_not v t (Link to) steps ride = absurd cc
  ride_waits_not v t Stand steps ride = absurd cc
  ride_waits_not v t (Ride trip day board alight) steps ride = none_later v t (Ride trip day board alight ∷ steps) refl

  none_waits_not : (v t : ℕ) (step : Step) (steps : List Step) → ((w u : ℕ) (c : Option ℕ) → IsStep n v t step w u c → ⊥) → MayLeaveLater n v t (step ∷ steps) 0
  none_waits_not v t step steps none w u letters (v1, t1, c, rest, is, departs, more, e) = absurd (none v1 t1 c is)

  -- so at the first ride, where there is no step, and at the end
  pub waited_at_ride : (start at : ℕ) (steps : List Step) (k node time waited : ℕ) (step : Step) → IsWaiting start at steps k node time waited → k < length steps
      → slice_index_or steps k step ≡ step → is_ride step ≡ true → MayLeaveLater n start at steps waited
  waited_at_ride start at steps k node time waited step so_far lt is ride =
      waited_so start at steps k node time waited so_far
      (subst (λ (s : List Step). MayLeaveLater n node time s 0) (sym (left_with steps k step lt is)) (ride_waits_not node time step (drop (k + 1) steps) ride))

  pub waited_at_none : (start at : ℕ) (steps : List Step) (k node time waited : ℕ) (step : Step) → IsWaiting start at steps k node time waited → k < length steps
      → slice_index_or steps k step ≡ step → ((w u : ℕ) (c : Option ℕ) → IsStep n node time step w u c → ⊥) → MayLeaveLater n start at steps waited
  waited_at_none start at steps k node time waited step so_far lt is none =
      waited_so start at steps k node time waited so_far
      (subst (λ (s : List Step). MayLeaveLater n node time s 0) (sym (left_with steps k step lt is)) (none_waits_not node time step (drop (k + 1) steps) none))

  pub waited_at_end : (start at : ℕ) (steps : List Step) (k node time waited : ℕ) → IsWaiting start at steps k node time waited → k ≡ length steps → MayLeaveLater n start at steps waited
  waited_at_end start at steps k node time waited so_far whole =
      let nothing : drop k steps ≡ [] = drop_all k steps (omega arith) in
      waited_so start at steps k node time waited so_far (subst (λ (s : List Step). MayLeaveLater n node time s 0) (sym nothing) (none_later node time [] refl))
