-- How far the steps of a journey can be taken, and the word of those that are taken.
use Rattle.plan_base.proofs.Common.{◌≡◌, ℕ, zero, suc, ◌+◌, ◌*◌, ◌^◌, ◌<◌, ◌∙◌, List, [], ◌∷◌, ◌++◌, length, take, drop, Option, Some, None, is_some, not, Bool, true, false, refl, ap, sym, subst, option_to_list, slice_index_or, All, IsTrue, ◌↔◌, take-length, take_more, slice_get-get_or}
use Rattle.search_laws.specs.{time_bound, collapse}
use Rattle.mode_network.specs.{Step, IsNetwork, Route, IsStep, AreSteps, NetworkLists.NetworkLists}
use Rattle.mode_network.proofs.RuleLemmas.{some_is}
use Rattle.journey.specs.{KeepsRules, AreTaken, HasTime, IsFirstBad, FirstBad, IsReal, EndsAt, HasWord, IsSpelt, AlwaysLeadsTo, inside.with_letter}
use Rattle.journey.proofs.{StepLemmas.steps_more, StepLemmas.taken_on, StepLemmas.step_in_time, StepLemmas.on_time, ToldLemmas.next_step, ToldLemmas.with_more}

-- after k steps from v at t the journey is at the node at the time
pub record IsWalking (n : NetworkLists) (v t : ℕ) (steps : List Step) (k node at : ℕ) : Type 0 where
  pub letters : List ℕ
  pub before : AreSteps n v t (take k steps) node at letters
  pub in_time : at < time_bound + k * 2 ^ 32

one_more : (steps : List Step) (k : ℕ) (step : Step) → k < length steps → slice_index_or steps k step ≡ step → take (k + 1) steps ≡ take k steps ++ step ∷ []
one_more steps k step lt is = take_more steps k step lt ∙ ap (λ (x : Step). take k steps ++ x ∷ []) is

module _ (n : NetworkLists) (v t : ℕ) (steps : List Step) where
  pub walking_more : KeepsRules n → All HasTime steps → (k node at : ℕ) (step : Step) → IsWalking n v t steps k node at → k < length steps
      → slice_index_or steps k step ≡ step → (w u : ℕ) (c : Option ℕ) → IsStep n node at step w u c → IsWalking n v t steps (k + 1) w u
  walking_more rules times k node at step walking lt is w u c here = record {
    letters = walking.letters ++ option_to_list c;
    before = rw (one_more steps k step lt is) (steps_more n v t (take k steps) node at walking.letters step w u c walking.before here);
    in_time = on_time k at u walking.in_time (step_in_time n rules node at step w u c (subst HasTime is (times k step lt)) here);
  }

  pub walking_ends : (k node at : ℕ) (step : Step) → IsWalking n v t steps k node at → k < length steps → slice_index_or steps k step ≡ step
      → ((w u : ℕ) (c : Option ℕ) → IsStep n node at step w u c → ⊥) → IsFirstBad n v t steps k
  walking_ends k node at step walking lt is bad = record {
    node = node;
    at = at;
    letters = walking.letters;
    step = step;
    before = walking.before;
    step_is = slice_get-get_or steps k step lt ∙ ap Some is;
    bad = bad;
  }

-- where a step is none, the journey is not real
pub bad_not_taken : (n : NetworkLists) → IsNetwork n → (v t : ℕ) (steps : List Step) (place : ℕ) → IsFirstBad n v t steps place → AreTaken n v t steps → ⊥
bad_not_taken n network v t [] place first taken = let is = first.step_is in cc
bad_not_taken n network v t (step ∷ steps) zero first taken =
    let (v1, t1, c, rest, here, more, e) = taken.are in
    let (at, now, none) = first.before in
    let same : step ≡ first.step = some_is first.step_is in
    first.bad v1 t1 c
    (subst (λ (s : Step). IsStep n first.node first.at s v1 t1 c) same
    (subst (λ x. IsStep n x first.at step v1 t1 c) (sym at) (subst (λ y. IsStep n v y step v1 t1 c) (sym now) here)))
bad_not_taken n network v t (step ∷ steps) (suc place) first taken =
    let (v1, t1, c, rest, here, more, e) = first.before in
    let later : IsFirstBad n v1 t1 steps place = record { node = first.node; at = first.at; letters = rest; step = first.step; before = more; step_is = first.step_is; bad = first.bad } in
    bad_not_taken n network v1 t1 steps place later (taken_on n network v t step steps v1 t1 c taken here)

-- after k steps of a real journey the node is this, and the word
pub record IsSpelled (n : NetworkLists) (v t : ℕ) (steps : List Step) (k node : ℕ) (word : List ℕ) : Type 0 where
  pub at : ℕ
  pub letters : List ℕ
  pub before : AreSteps n v t (take k steps) node at letters
  pub word_is : word ≡ collapse letters
  pub rest : AreTaken n node at (drop k steps)

module _ (n : NetworkLists) (v t : ℕ) (steps : List Step) where
  pub spelling_more : (k node : ℕ) (word : List ℕ) (step : Step) → IsSpelled n v t steps k node word → k < length steps
      → slice_index_or steps k step ≡ step → (w : ℕ) (c : Option ℕ) → AlwaysLeadsTo n node step w c → IsSpelled n v t steps (k + 1) w (with_letter word c)
  spelling_more k node word step spelled lt is w c leads =
      let taken = next_step n steps k node spelled.at step spelled.rest lt is in
      let (v1, t1, letter, rest, here, more, e) = taken.are in
      let (same, same_letter) = leads spelled.at v1 t1 letter here in
      let step_taken = subst (λ x. IsStep n node spelled.at step x t1 c) same (subst (λ l. IsStep n node spelled.at step v1 t1 l) same_letter here) in
      record {
        at = t1;
        letters = spelled.letters ++ option_to_list c;
        before = rw (one_more steps k step lt is) (steps_more n v t (take k steps) node spelled.at spelled.letters step w t1 c spelled.before step_taken);
        word_is = ap (λ (x : List ℕ). with_letter x c) spelled.word_is ∙ sym (with_more spelled.letters c);
        rest = record { end = taken.end; arrival = taken.arrival; letters = rest; are = subst (λ x. AreSteps n x t1 (drop (k + 1) steps) taken.end taken.arrival rest) same more };
      }

  pub spelled_all : (k node : ℕ) (word : List ℕ) → k ≡ length steps → IsSpelled n v t steps k node word → IsSpelt n v t steps word
  spelled_all k node word whole spelled = record {
    end = node;
    arrival = spelled.at;
    letters = spelled.letters;
    are = subst (λ (l : List Step). AreSteps n v t l node spelled.at spelled.letters) (ap (λ i. take i steps) whole ∙ take-length steps) spelled.before;
    word_is = spelled.word_is;
  }

module _ (n : NetworkLists) (j : Route) where
  pub word_spelt : (start at : ℕ) (items steps : List Step) (word : List ℕ) → (let inside : Route = record { start = start; at = at; steps = items } in inside ≡ j) → steps ≡ items
      → ((t : ℕ) → AreTaken n start t steps → IsSpelt n start t steps word) → IsReal n j → HasWord n j word
  word_spelt start at items steps word view same spelt real =
      let of_items = subst (λ (l : List Step). (t : ℕ) → AreTaken n start t l → IsSpelt n start t l word) same spelt in
      let is = of_items at (subst (λ (k : Route). IsReal n k) (sym view) real) in
      subst (λ (k : Route). HasWord n k word) view (is.end, is.arrival, record { letters = is.letters; steps = is.are; word_is = is.word_is })

  -- there is no first bad step exactly where the journey is real
  pub none_bad : IsNetwork n → (o : Option ℕ) (t : Bool) → is_some o ≡ not t → FirstBad n j o → IsTrue t ↔ IsReal n j
  none_bad network None true e real = (λ yes. real, λ also. refl)
  none_bad network None false e real = cc
  none_bad network (Some place) true e bad = cc
  none_bad network (Some place) false e bad = (λ no. cc, λ real. absurd (bad_not_taken n network j.start j.at j.steps place bad real))

  -- where its steps end a real journey ends
  pub ends_at : (w u : ℕ) → (letters : List ℕ) × AreSteps n j.start j.at j.steps w u letters → EndsAt n j w u
  ends_at w u (letters, are) = (collapse letters, record { letters = letters; steps = are; word_is = refl })
