-- A journey as far as it was walked.
use Rattle.plan_base.proofs.Common.{◌≡◌, ℕ, ◌+◌, ◌*◌, ◌^◌, ◌<◌, ◌∙◌, List, [], ◌∷◌, ◌++◌, length, take, Option, Some, ap, sym, subst, option_to_list, slice_index_or, All, take-length, take_more, slice_get-get_or}
use Rattle.search_laws.specs.{time_bound, LabelsMeaning}
use Rattle.mode_network.specs.{Step, IsStep, AreSteps, NetworkLists.NetworkLists}
use Rattle.journey.specs.{StepEnd, KeepsRules, HasTime, IsFirstBad}
use Rattle.journey.proofs.StepLemmas.{steps_more, step_in_time, on_time}
use Rattle.certificate.specs.{declared.walked.Walked.Walked, AreAfter, IsWalkedTo}

-- after k steps from v at t this is where and when the journey is, and these are the states after its letters
pub record IsWalking (n : NetworkLists) (l : LabelsMeaning) (v t : ℕ) (steps : List Step) (k : ℕ) (walked : Walked) : Type 0 where
  pub letters : List ℕ
  pub before : AreSteps n v t (take k steps) walked.node walked.at letters
  pub states : AreAfter l letters walked.states
  pub in_time : walked.at < time_bound + k * 2 ^ 32

-- one step more leads to where and when it ends, and its letter, if it has one, is read
pub record GoesOn (l : LabelsMeaning) (old new : Walked) (end : StepEnd) : Type 0 where
  pub node : new.node ≡ end.node
  pub at : new.at ≡ end.at
  pub states : (letters : List ℕ) → AreAfter l letters old.states → AreAfter l (letters ++ option_to_list end.letter) new.states

module _ (n : NetworkLists) (l : LabelsMeaning) (v t : ℕ) (steps : List Step) where
  pub walking_more : KeepsRules n → All HasTime steps → (k : ℕ) (old new : Walked) (step : Step) (end : StepEnd) → IsWalking n l v t steps k old → k < length steps
      → slice_index_or steps k step ≡ step → IsStep n old.node old.at step end.node end.at end.letter → GoesOn l old new end → IsWalking n l v t steps (k + 1) new
  walking_more rules times k old new step end walking lt is here on = record {
    letters = walking.letters ++ option_to_list end.letter;
    before = rw (take_more steps k step lt ∙ ap (λ (x : Step). take k steps ++ x ∷ []) is)
        (steps_more n v t (take k steps) old.node old.at walking.letters step new.node new.at end.letter walking.before there);
    states = on.states walking.letters walking.states;
    in_time = on_time k old.at new.at walking.in_time (step_in_time n rules old.node old.at step new.node new.at end.letter (subst HasTime is (times k step lt)) there);
  } where
    there : IsStep n old.node old.at step new.node new.at end.letter
    there = subst (λ x. IsStep n old.node old.at step x new.at end.letter) (sym on.node)
        (subst (λ y. IsStep n old.node old.at step end.node y end.letter) (sym on.at) here)

  pub walking_ends : (k : ℕ) (walked : Walked) (step : Step) → IsWalking n l v t steps k walked → k < length steps → slice_index_or steps k step ≡ step
      → ((w u : ℕ) (c : Option ℕ) → IsStep n walked.node walked.at step w u c → ⊥) → IsFirstBad n v t steps k
  walking_ends k walked step walking lt is bad = record {
    node = walked.node;
    at = walked.at;
    letters = walking.letters;
    step = step;
    before = walking.before;
    step_is = slice_get-get_or steps k step lt ∙ ap Some is;
    bad = bad;
  }

  pub walked_all : (k : ℕ) (walked : Walked) → k ≡ length steps → IsWalking n l v t steps k walked → IsWalkedTo n l v t steps walked
  walked_all k walked whole walking = record {
    letters = walking.letters;
    are = subst (λ (x : List Step). AreSteps n v t x walked.node walked.at walking.letters) (ap (λ i. take i steps) whole ∙ take-length steps) walking.before;
    states = walking.states;
  }
