-- The verdict on a journey that is claimed.
use Rattle.plan_base.proofs.Common.{ℕ, ◌≤◌, inl, inr, List, Option, Some, None, refl, Contains, ◌↔◌}
use Rattle.search_laws.specs.{LabelsMeaning, Accepts, collapse}
use Rattle.mode_expression.specs.{IsWordOf}
use Rattle.mode_network.specs.{NetworkLists.NetworkLists, Route, IsCopy}
use Rattle.certificate.specs.{declared.verdict.CertVerdict.TheVariants.Valid, Invalid, Goal, JourneyCheck, IsTimely, StartsWell, FailsFirstOfThree, IsFirstFailing, IsAsClaimed, IsClaimVerdict, IsSetUp, goal_of, AreAfter, IsWalkedTo, declared.walked.Walked.Walked}
use Rattle.journey.specs.{Asked, Answers, asked_by}

-- the first of three facts fails where the first of three others does that hold exactly as they do
pub fails_same : (P Q R P2 R2 : Type 0) → P ↔ P2 → R ↔ R2 → (at : ℕ) → FailsFirstOfThree P Q R at → FailsFirstOfThree P2 Q R2 at
fails_same P Q R P2 R2 p r at (inl (is, none)) = inl (is, λ h. none (p.1 h))
fails_same P Q R P2 R2 p r at (inr (inl (is, first, none))) = inr (inl (is, p.0 first, none))
fails_same P Q R P2 R2 p r at (inr (inr (is, first, second, none))) = inr (inr (is, p.0 first, second, λ h. none (r.1 h)))

module _ {L : Type 0} (l : LabelsMeaning) (check : JourneyCheck L) (set_up : IsSetUp l check) (goal : Goal) (j : Route) where
  abbrev n : NetworkLists
  n = check.network.now

  abbrev q : Asked
  q = asked_by check.query.now

  starts_well : Contains check.origins.now j.start × (goal.earliest ≤ j.at) → StartsWell n q goal j
  starts_well (listed, later) = record { at_copy = (set_up.origins.are j.start).0 listed; not_before = later }

  -- how far a journey that was walked ends as is claimed
  abbrev EndIs : Walked → Option ℕ → Type 0
  EndIs walked place =
      (letters : List ℕ) → AreAfter l letters walked.states → IsFirstFailing (Contains check.destinations.now walked.node) (IsTimely goal.arrival walked.at) (Accepts l letters) place

  pub end_fails : Contains check.origins.now j.start × (goal.earliest ≤ j.at) → (walked : Walked) → IsWalkedTo n l j.start j.at j.steps walked → (at : ℕ) → EndIs walked (Some at)
      → IsClaimVerdict n q goal j (Invalid 5 at)
  end_fails start walked is at fails = inr (inr (record {
    clause_is = refl;
    starts = starts_well start;
    end = walked.node;
    time = walked.at;
    word = collapse is.letters;
    real = record { letters = is.letters; steps = is.are; word_is = refl };
    bad = fails_same (Contains check.destinations.now walked.node) (IsTimely goal.arrival walked.at) (Accepts l is.letters) (IsCopy n q.to walked.node)
        (IsWordOf q.form (collapse is.letters)) (set_up.destinations.are walked.node) (set_up.denotes is.letters) at (fails is.letters is.states);
  }))

  pub as_claimed : Contains check.origins.now j.start × (goal.earliest ≤ j.at) → (walked : Walked) → IsWalkedTo n l j.start j.at j.steps walked → EndIs walked None
      → IsClaimVerdict n q goal j Valid
  as_claimed start walked is ends =
      let (at_target, timely, accepts) = ends is.letters is.states in
      record {
        starts = starts_well start;
        end = walked.node;
        time = walked.at;
        word = collapse is.letters;
        real = record { letters = is.letters; steps = is.are; word_is = refl };
        ends_at_copy = (set_up.destinations.are walked.node).0 at_target;
        timely = timely;
        denoted = (set_up.denotes is.letters).0 accepts;
      }

-- a journey that answers at an arrival is as that is claimed
pub answers_as_claimed : (n : NetworkLists) (q : Asked) (arrival : ℕ) (j : Route) → Answers n q j arrival → IsAsClaimed n q (goal_of q arrival) j
answers_as_claimed n q arrival j a = record {
  starts = record { at_copy = a.starts_at_copy; not_before = a.not_before };
  end = a.end;
  time = arrival;
  word = a.word;
  real = a.real;
  ends_at_copy = a.ends_at_copy;
  timely = refl;
  denoted = a.denoted;
}
