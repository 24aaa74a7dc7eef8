-- What the telling of a journey keeps from step to step.
use Rattle.plan_base.proofs.Common.{◌≡◌, ℕ, ◌+◌, ◌*◌, ◌^◌, ◌<◌, ◌∙◌, List, [], ◌∷◌, ◌++◌, length, take, drop, Option, Some, None, ap, sym, subst, append-nil, suc, add-one, drop-cons, option_to_list, slice_index_or, All, take_more}
use Rattle.search_laws.specs.{time_bound, collapse}
use Rattle.plain_texts.specs.{with_feed}
use Rattle.mode_network.specs.{Step, nodes_of, IsStep, NetworkLists.NetworkLists}
use Rattle.journey.specs.{KeepsRules, AreTaken, HasTime, step_text, AreTold, inside.with_letter}
use Rattle.journey.proofs.{CollapseLemmas.collapse_more, StepLemmas.told_more, StepLemmas.taken_on, StepLemmas.step_in_range, StepLemmas.step_in_time, StepLemmas.on_time}

-- after k steps from v at t the journey is at the node at the time, and has this word and these lines
pub record IsTelling (n : NetworkLists) (v t : ℕ) (steps : List Step) (k node at : ℕ) (word lines : List ℕ) : Type 0 where
  pub letters : List ℕ
  pub told : AreTold n v t (take k steps) node at letters lines
  pub word_is : word ≡ collapse letters
  pub rest : AreTaken n node at (drop k steps)
  pub in_range : node < length (nodes_of n)
  pub in_time : at < time_bound + k * 2 ^ 32

pub with_more : (letters : List ℕ) (c : Option ℕ) → collapse (letters ++ option_to_list c) ≡ with_letter (collapse letters) c
with_more letters None = ap collapse (append-nil letters)
with_more letters (Some c) = collapse_more letters c

-- the first of the steps that are left
pub next_step : (n : NetworkLists) (steps : List Step) (k node at : ℕ) (step : Step) → AreTaken n node at (drop k steps)
    → k < length steps → slice_index_or steps k step ≡ step → AreTaken n node at (step ∷ drop (k + 1) steps)
next_step n steps k node at step taken lt is =
    subst (AreTaken n node at) (drop-cons steps k step lt ∙ (ap (λ (x : Step). x ∷ drop (suc k) steps) is ∙ ap (λ i. step ∷ drop i steps) (sym (add-one k)))) taken

-- the steps that are left go on with one that is a step
pub goes_on : (n : NetworkLists) (steps : List Step) (k node at : ℕ) (step : Step) → AreTaken n node at (drop k steps) → k < length steps
    → slice_index_or steps k step ≡ step → ((w u : ℕ) (c : Option ℕ) → IsStep n node at step w u c → ⊥) → ⊥
goes_on n steps k node at step taken lt is none =
    let (v1, t1, c, rest, here, more, e) = (next_step n steps k node at step taken lt is).are in
    none v1 t1 c here

pub telling_more : (n : NetworkLists) → KeepsRules n → (v t : ℕ) (steps : List Step) → All HasTime steps → (k node at : ℕ) (word lines : List ℕ) (step : Step)
    → IsTelling n v t steps k node at word lines → k < length steps → slice_index_or steps k step ≡ step
    → (w u : ℕ) (c : Option ℕ) → IsStep n node at step w u c
    → IsTelling n v t steps (k + 1) w u (with_letter word c) (lines ++ with_feed (step_text n step w u))
telling_more n rules v t steps times k node at word lines step telling lt is w u c here =
    let more : take (k + 1) steps ≡ take k steps ++ step ∷ [] = take_more steps k step lt ∙ ap (λ (x : Step). take k steps ++ x ∷ []) is in
    let time = subst HasTime is (times k step lt) in
    record {
      letters = telling.letters ++ option_to_list c;
      told = rw more (told_more n v t (take k steps) node at telling.letters lines step w u c telling.told here);
      word_is = ap (λ (x : List ℕ). with_letter x c) telling.word_is ∙ sym (with_more telling.letters c);
      rest = taken_on n rules.network node at step (drop (k + 1) steps) w u c (next_step n steps k node at step telling.rest lt is) here;
      in_range = step_in_range n rules node at step w u c telling.in_range here;
      in_time = on_time k at u telling.in_time (step_in_time n rules node at step w u c time here);
    }
